pub mod Journals
pub mod Work
pub mod WorkerHandles
pub mod ServerWorkers
