-- What other crates may cite of this one's proofs, each passed on from the module that proves it.
pub use Rattle.bw_pool.proofs.Amounts.{plan_is_planned, drained_workers_draw_the_plan}
pub use Rattle.bw_pool.proofs.Ceilings.{never_past_the_plan}
pub use Rattle.bw_pool.proofs.PoolSound.{sound_new}
