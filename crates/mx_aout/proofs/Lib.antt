mod SymbolLists
mod WrittenSymbols
mod WrittenFile
pub mod OneProgram
