-- The open sections, and the decision on each line.
pub mod SectionFaults
pub mod StepViews
pub mod SectionStates
pub mod OpenSections
pub mod Actions
pub mod ClassifiedLines
pub mod Checking
pub mod Limits
pub mod MachineState
pub mod EndFaults
pub mod StackOps
pub mod Transitions
