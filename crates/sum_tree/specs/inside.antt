-- What the parts of the crate say to each other.
-- what a write in place asks of a list and its nodes, and what it leaves
pub mod InPlace
-- the words of clauses on nodes, on their children and on trees
pub mod Nodes
-- what the parts of joining and cutting hand on
pub mod Parts
-- the nodes on a path from the root down
pub mod Paths
-- what a whole tree keeps
pub mod Trees
-- the words of clauses on a path
pub mod Ways
