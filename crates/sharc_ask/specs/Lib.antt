pub mod StepView
pub mod Waking
pub mod Width
pub mod Held
pub mod Plans
pub mod Stack
pub mod Values
pub mod View
