mod TextLemmas
mod StartLemmas
mod NumberLemmas
