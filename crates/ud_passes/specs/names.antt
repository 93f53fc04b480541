-- The names of conditions as a table, and the conditions that can't be listed in full.
pub mod NameTables
pub mod UnlistedConditions
pub mod UnlistedLines
pub mod RowViews
