-- The lemmas of this crate that others cite.
pub use Rattle.sdb_contents.proofs.Closings.{coordinator_fit}
pub use Rattle.sdb_contents.proofs.Coordinated.{recorded_all, recorded_has, recorded_small}
pub use Rattle.sdb_contents.proofs.DumpLists.{first_or_later, here_in, later_in, none_in}
pub use Rattle.sdb_contents.proofs.Empty.{no_record}
pub use Rattle.sdb_contents.proofs.GoesOn.{fit_for, fit_for_as, fit_for_before, goes_more, goes_none, refused_after, some_more}
pub use Rattle.sdb_contents.proofs.Images.{decision_there, records_rise}
pub use Rattle.sdb_contents.proofs.Later.{odd_before, recorded_later}
pub use Rattle.sdb_contents.proofs.Lists.{take_suc}
pub use Rattle.sdb_contents.proofs.Made.{asked, delayed, discarded, lost, once_lost, once_seen, unasked}
pub use Rattle.sdb_contents.proofs.Making.{all_less}
pub use Rattle.sdb_contents.proofs.Refusals.{passed, refused_as}
pub use Rattle.sdb_contents.proofs.StoreContents.{named_home}
