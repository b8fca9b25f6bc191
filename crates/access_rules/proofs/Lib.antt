pub mod RightLemmas
pub mod SectionLemmas
pub mod TextLemmas
pub mod LinesLemmas
pub mod SightLemmas
