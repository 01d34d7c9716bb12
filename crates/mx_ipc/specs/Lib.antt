pub mod Checks
pub mod Calls
pub use Rattle.mx_sched.specs.Queueing
pub use Rattle.mx_sched.specs.Proc
