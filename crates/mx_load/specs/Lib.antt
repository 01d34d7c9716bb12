pub mod Load
pub mod Room
pub use Rattle.mx_exec.specs.Image
pub use Rattle.mx_mem.specs.Segment
