mod Tabbed
