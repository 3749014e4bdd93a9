-- What a microword makes the datapath do (phase four, pp. 113-114).
pub mod Operation
pub mod Results
