-- The types of other crates that this crate speaks of.
pub use Rattle.hex.specs.declared.error.FromHexError.{FromHexError}
pub use Rattle.sdb_model.specs.declared.answer.Refusal.{Refusal}
pub use Rattle.sdb_model.specs.declared.statement.Comparison.{Comparison}
pub use Rattle.sdb_model.specs.declared.statement.Insert.{Insert}
pub use Rattle.sdb_model.specs.declared.statement.Statement.{Statement}
pub use Rattle.sdb_model.specs.declared.statement.Test.{Test}
pub use Rattle.sdb_model.specs.declared.token.Keyword.{Keyword}
pub use Rattle.sdb_model.specs.declared.token.Placed.{Placed}
pub use Rattle.sdb_model.specs.declared.token.Sign.{Sign}
pub use Rattle.sdb_model.specs.declared.token.Token.{Token}
pub use Rattle.sdb_types.specs.declared.key.TableName.{TableName}
pub use Rattle.sdb_types.specs.declared.memory.NoMemory.{NoMemory}
pub use Rattle.sdb_types.specs.declared.pair.Pair.{Pair}
pub use Rattle.sdb_types.specs.declared.value.Value.{Value}
