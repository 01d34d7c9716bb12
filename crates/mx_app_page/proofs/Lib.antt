mod PageLemmas
mod MadeLemmas
mod AboveLemmas
mod PageStart
mod ReadingLemmas
mod StripLemmas
