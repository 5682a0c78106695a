pub mod Answer
pub mod AnswerLaws
pub mod Sound
pub mod SoundLaws
pub mod Most
pub mod SoundDay
pub mod Reweighed
pub mod Parts
