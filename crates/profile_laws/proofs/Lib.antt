pub mod TableLemmas
pub mod TypedLemmas
pub mod TextLemmas
pub mod ExpansionLemmas
pub mod RuleLemmas
pub mod ReturnLemmas
