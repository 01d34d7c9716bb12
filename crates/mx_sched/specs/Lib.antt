pub mod Queueing
pub use Rattle.mx_proc.specs as Proc
