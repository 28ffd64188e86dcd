pub mod Sound
pub mod SoundDevice
