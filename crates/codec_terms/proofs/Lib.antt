mod MqValues
pub mod BandLaws
pub mod BlockLaws
pub mod CoefficientLaws
pub mod ColourLaws
pub mod CutLaws
pub mod GridLaws
pub mod HeaderLaws
pub mod OrderLaws
pub mod PassLaws
pub mod QuantiserLaws
pub mod StepLaws
pub mod StreamLaws
pub mod WalkLaws
