-- What the definitions of specs/ mean.
pub mod FirstPlace
pub mod OneNumberAnEnd
pub mod LentTests
