-- What the crate promises

-- sums that are ordered by one measure
pub mod ByMeasures
-- the laws of a count of 64 bits, for sums that are made of counts
pub mod Counts
-- how a node lends its entries for writing
pub mod Lending
-- the laws of measures, each a number that is read off a sum
pub mod Measures
-- what a node holds, and when it is lawful
pub mod Nodes
-- the laws of sums and of dimensions, and the sum of a list
pub mod Sums
