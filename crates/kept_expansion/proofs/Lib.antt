mod LocalLemmas
mod PickLemmas
mod RootLemmas
mod PartLemmas
mod SpliceLemmas
mod UpdateLemmas
mod DifferingLemmas
