mod JsonLemmas
mod PlainLemmas
mod PlainRows
mod Places
