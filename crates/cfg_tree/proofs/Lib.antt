pub mod MapLemmas
pub mod EntryLemmas
pub mod TreeLemmas
pub mod SameLemmas
pub mod BelowLemmas
pub mod PathLemmas
pub mod PutLemmas
pub mod OrderLemmas
pub mod RemoveLemmas
pub mod StepLemmas
pub mod ClearLemmas
pub mod TypedLemmas
pub mod RoomLemmas
pub mod ChildrenLemmas
pub mod TopLemmas
pub mod AfterLemmas
pub mod FollowLemmas
pub mod NameLemmas
pub mod ReadyLemmas
pub mod OnceLemmas
pub mod PutAnswerLemmas
pub mod OtherLemmas
pub mod OwnLemmas
pub mod InPlaceLemmas
pub mod BesideLemmas
pub mod PartLemmas
pub mod MovedLemmas
pub mod MovesLemmas
pub mod RenamedLemmas
pub mod RelaidLemmas
mod CanonicalLemmas
mod LevelLemmas
mod GatherLemmas
mod GatheredLemmas
mod JoinLemmas
pub mod UnionLemmas
pub mod ValuesLemmas
mod ExcessLemmas
pub mod NamingLemmas
pub mod LimitLemmas
pub mod StatedLemmas
pub mod FullLemmas
pub mod WithinLemmas
pub mod FirstLemmas
pub mod FoundLemmas
