pub mod Inputs
pub mod Stopping
pub mod Disks
pub mod DiskLaws
