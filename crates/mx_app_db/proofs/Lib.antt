pub mod Apart
pub mod Worlds
pub mod Made
pub mod Printed
pub mod AnswerTexts
pub mod LastOnes
