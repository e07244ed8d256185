-- What other crates may cite of this one's proofs, each passed on from the module that proves it.
pub use Rattle.bw_model.proofs.Basics.{sum_below, sum-cons, sum-is, sum_below-front, sum_below-ap}
pub use Rattle.bw_model.proofs.Basics.{sum_below-more, sum_below-le, sum_below-zero, sum_below-add}
pub use Rattle.bw_model.proofs.Basics.{sum_by-range, sum_by-filter_range}
pub use Rattle.bw_model.proofs.Basics.{sum_below-change, sum_below-term, and_no, passed, goes_on}
pub use Rattle.bw_model.proofs.Basics.{no_parent, cancel_le, strong, from_the_last, list_any-range}
pub use Rattle.bw_model.proofs.Basics.{some_in_range, any-filter, same_map, range_more, listed}
pub use Rattle.bw_model.proofs.Basics.{zeros, sum_zeros, sum_none, get_or_within, bytes_eq-true}
pub use Rattle.bw_model.proofs.Basics.{bytes_eq-self, inside, cond_zero, cond_one}
pub use Rattle.bw_model.proofs.split.Exchange.{level-IsBestSplit, IsBestSplit-unique}
pub use Rattle.bw_model.proofs.tree.Under.{parent_lt, path_up-top, path_up-step, is_under-top}
pub use Rattle.bw_model.proofs.tree.Under.{is_under-step, is_under-self}
pub use Rattle.bw_model.proofs.allocation.Totals.{parent_from_is_child, is_child_from_parent}
pub use Rattle.bw_model.proofs.allocation.Totals.{is_child_no, sum_by-children, leaf_no_child}
pub use Rattle.bw_model.proofs.allocation.Totals.{inner_has_child, total-sum, total-inner}
pub use Rattle.bw_model.proofs.plan.Bounds.{total-le_bound, bounds-unique, children-le}
pub use Rattle.bw_model.proofs.plan.BoundsCover.{bounds_cover}
pub use Rattle.bw_model.proofs.tree.Places.{child_at}
pub use Rattle.bw_model.proofs.plan.Optimum.{get_or-map, IsNoWorse-same, no_children}
pub use Rattle.bw_model.proofs.plan.Optimum.{certified-IsPlan}
pub use Rattle.bw_model.proofs.plan.Unique.{listed_child, IsPlan-unique}
pub use Rattle.bw_model.proofs.allocation.Reach.{capped, joined, joined_at, length-joined}
pub use Rattle.bw_model.proofs.allocation.Reach.{joined_zero, total-joined, capped_le_want}
pub use Rattle.bw_model.proofs.allocation.Reach.{most_le_want, most_le_limit}
pub use Rattle.bw_model.proofs.allocation.Reach.{reached, capped-IsMost}
pub use Rattle.bw_model.proofs.plan.Planned.{parent_not_leaf, part_le_most, tight-bound_at}
pub use Rattle.bw_model.proofs.plan.Planned.{planned-IsPlan}
pub use Rattle.bw_model.proofs.allocation.DemandOutside.{any-ap, above-top, above-child}
pub use Rattle.bw_model.proofs.allocation.DemandOutside.{demand_outside-is}
pub use Rattle.bw_model.proofs.allocation.Limiting.{limited_total-is, limited-IsGreatestTotal}
pub use Rattle.bw_model.proofs.split.NoGainfulMove.{product-remove, cost-set, lex_at, product-pos}
pub use Rattle.bw_model.proofs.split.NoGainfulMove.{moved-IsSplit, move-marks-apart, best-IsAtLevel}
pub use Rattle.bw_model.proofs.split.Order.{cross_lt_right, IsBelow-trans, IsBelow-irrefl}
pub use Rattle.bw_model.proofs.split.Order.{IsBelow-cases, none-IsAtLevel, step-IsAtLevel}
pub use Rattle.bw_model.proofs.split.Order.{below_less, is_lt-IsBelow, is_le-IsAtMost}
pub use Rattle.bw_model.proofs.split.Pairwise.{IsPairwise, pairwise-IsBestSplit}
pub use Rattle.bw_model.proofs.tree.Paths.{parent_at, depth_le, way_from, way_up, path_up-way_up}
pub use Rattle.bw_model.proofs.tree.Paths.{reach, depth_of-top, depth_of-step, way_from-step}
pub use Rattle.bw_model.proofs.tree.Paths.{reach_parent}
pub use Rattle.bw_model.proofs.tree.Instances.{earlier-AreTreeRows, IsHost-accepted}
pub use Rattle.bw_model.proofs.tree.Instances.{refused_none-IsInstance, accepted-IsInstance}
pub use Rattle.bw_model.proofs.tree.Instances.{IsInstance-accepted, capacity_le}
pub use Rattle.bw_model.proofs.tree.Listing.{is_leaf-length}
pub use Rattle.bw_model.proofs.tree.OneRow.{leaf_same, row_read}
pub use Rattle.bw_model.proofs.allocation.ChildSums.{sum_of_children-below, sum_of_children-set}
pub use Rattle.bw_model.proofs.allocation.ChildSums.{sum_of_children-left, child_le_sum}
pub use Rattle.bw_model.proofs.allocation.ChildSums.{sum_of_children-zero}
pub use Rattle.bw_model.proofs.allocation.Mosts.{IsMost-unique, mosts, mosts-capped}
pub use Rattle.bw_model.proofs.allocation.Mosts.{AreMaxTotals-capped}
pub use Rattle.bw_model.proofs.plan.Tested.{each_below, at_each, is_below, is_below-true}
pub use Rattle.bw_model.proofs.plan.Tested.{is_below-from}
pub use Rattle.bw_model.specs.MarkLaws.{cmp_equal, cmp_greater}
