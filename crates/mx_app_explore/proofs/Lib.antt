mod FoundLemmas
mod Pieces
