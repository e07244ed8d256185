-- What other crates may cite of this one's proofs, each passed on from the module that proves it.
pub use Rattle.bw_columns.proofs.Asked.{rows_length}
pub use Rattle.bw_columns.proofs.ColumnsOfGroups.{front_by}
pub use Rattle.bw_columns.proofs.RefusedRow.{refused_empty}
