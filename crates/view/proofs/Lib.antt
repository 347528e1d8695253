-- Laws of tests over an outline and of the checks, and the theorems: Demand3, Same, Shape, Table, Cut, CutNumber, OpenOutline, Made, Roots, RootCases, Exact, LimitAlone.
pub mod All
pub mod Checks
pub mod Demand3
pub mod Same
pub mod Shape
pub mod Table
pub mod Cut
pub mod CutNumber
pub mod OpenOutline
pub mod Made
pub mod Roots
pub mod RootCases
pub mod Exact
pub mod LimitAlone
