pub mod Context
pub mod Entry
pub mod Sound
pub mod FlexSays
