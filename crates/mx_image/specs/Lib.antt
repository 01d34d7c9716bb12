pub mod Run
pub use Rattle.mx_exec.specs.Lasting
pub use Rattle.mx_exec.specs.Step
pub use Rattle.mx_exec.specs.declared.image.Image
pub use Rattle.mx_exec.specs.declared.image.Outcome
