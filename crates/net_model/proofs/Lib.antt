pub mod Meaning
pub mod Adding
pub mod Places
pub mod SoundNets
pub mod Walking
pub mod Counted
pub mod TreesByPhase
pub mod ClientsInNet
