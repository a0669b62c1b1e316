-- What a bank file is, and what a walk over one finds.
pub mod Bank
pub mod Version
pub mod Encoding
pub mod Fault
pub mod File
pub mod FitsFields
pub mod WriteFault
pub mod FaultLaws
