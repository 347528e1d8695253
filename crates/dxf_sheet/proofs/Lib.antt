-- The sheet of a drawing that is read.
mod Made
