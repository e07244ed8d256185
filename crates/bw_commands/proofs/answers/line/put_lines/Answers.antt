-- The goals of `put_lines` that are answered by hand.
use Rattle.std.proofs.Common.{◌≡◌, ◌<◌, ◌+◌, ◌++◌, ◌∷◌, [], ℕ, Some, length, get_or, arith, sym, ap}
use Rattle.std.proofs.Common.{subst, ◌∙◌, append_assoc}
use Rattle.std.specs.List.{range_with_len}
use Rattle.std.specs.Map.{keys_of}
use Rattle.std.proofs.lemmas.List.{length-map, length-append}
use Rattle.bw_tree.specs.Groups.{GroupFields}
use Rattle.bw_tree.specs.Paths.{path_at}
use Rattle.bw_tree.proofs.CallerLemmas.{path_leads}
use Rattle.bw_commands.specs.declared.span.Span.{Span}
use Rattle.bw_commands.specs.GroupLines.{group_lines}
use Rattle.bw_commands.specs.LineText.{line_at, line_of}
use Rattle.bw_commands.specs.PathList.{cut, cuts, AreWithin, path_below}
use Rattle.bw_commands.proofs.PathLists.{within_more, within_push, cuts-append, cuts-line}
use Rattle.bw_commands.proofs.PathLists.{parts-append, each_push, step_path, paths_of_rows}
use Rattle.bw_commands.proofs.Totals.{group_lines-push, rows-more, rows-length}
use Rattle.bw_commands.proofs.answers.line.put_lines.Goals as goal

pub put_path-requires-clause-within : goal.put_path-requires-clause-within
put_path-requires-clause-within c =
    let text = c.loop-g.answer.items in
    let head = c.in_ok-put_head.ensures.ok in
    let longer = ap length head.1 ∙ length-append text head.0 in
    subst (AreWithin (length c.put_head.new.answer.items)) (sym c.as_slice.ensures.value)
    (within_more (length text) (length c.put_head.new.answer.items) c.loop-g.spans.items
    c.loop-g.invariant.within (omega (arith, longer)))

pub loop-g-preserved : goal.loop-g-preserved
loop-g-preserved c =
    let t = c.args.tree.now in
    let ids = keys_of t.groups in
    let g = c.loop-g.g in
    let i = c.loop-g.invariant in
    let text = c.loop-g.answer.items in
    let spans = c.loop-g.spans.items in
    let paths = cuts text spans in
    let line = line_of c.args.line ids in
    let begun = c.in_ok-put_head.ensures.ok in
    let head = begun.0 in
    let entry = c.entry_of_row-group.result in
    let read = c.entry_of_row-group.ensures in
    let group = read.group in
    let name = entry.name.now in
    let path = path_below paths entry.parent name in
    let span : Span = record { start = c.len-start.result; end = c.len-end.result } in
    let before_path = c.put_head.new.answer.items in
    let named_part : c.put_path.new.text.items ≡ text ++ head ++ path =
    c.in_ok-put_path.ensures.ok
    ∙ ap (λ s. before_path ++ path_below (cuts before_path s) entry.parent name)
    c.as_slice.ensures.value
    ∙ ap (λ x. x ++ path_below (cuts x spans) entry.parent name) begun.1
    ∙ ap (λ ps. text ++ head ++ path_below ps entry.parent name)
    (cuts-append text head spans i.within) in
    let wider : c.push.new.self.items ≡ text ++ head ++ path ++ 10 ∷ [] =
    c.in_ok-push.ensures.items ∙ ap (λ x. x ++ 10 ∷ []) named_part in
    let longer : c.push_reserved.new.self.items ≡ spans ++ span ∷ [] =
    c.push_reserved.ensures.items in
    let from : span.start ≡ length (text ++ head) =
    c.len-start.ensures ∙ c.put_head.new.answer.ok.0 ∙ ap length begun.1 in
    let to : span.end ≡ length (text ++ head ++ path) =
    c.len-end.ensures ∙ c.put_path.new.text.ok.0 ∙ ap length named_part in
    let long_head = length-append text head in
    let long_path = length-append (text ++ head) path in
    let long_line = ap length wider ∙ length-append (text ++ head ++ path) (10 ∷ []) in
    let cut_are : cuts c.push.new.self.items c.push_reserved.new.self.items ≡ paths ++ path ∷ [] =
    ap (λ x. cuts x c.push_reserved.new.self.items) wider
    ∙ ap (cuts (text ++ head ++ path ++ 10 ∷ [])) longer
    ∙ cuts-line text head path (10 ∷ []) spans span i.within from to in
    let lt : g < length t.groups =
    omega (
      arith,
      c.loop-g-test.true,
      c.group_count-count.ensures,
      length-map t.groups (λ (e : ℕ × GroupFields). e.0),
    ) in
    let count : length paths ≡ g = length-map spans (cut text) ∙ i.count in
    let here : path_at t.groups (get_or ids g 0) ≡ Some path =
    step_path t read.valid paths g group.0 lt group.1 entry.parent (sym group.2) read.before
    i.named
    ∙ ap (λ x. Some (path_below paths entry.parent x)) (sym group.3) in
    let all : (k : ℕ) → k < length paths + 1 → path_at t.groups (get_or ids k 0)
    ≡ Some (get_or (paths ++ path ∷ []) k []) =
    each_push (λ k p. path_at t.groups (get_or ids k 0) ≡ Some p) paths path []
    (λ k low. i.named k (omega (arith, low, count)))
    (ap (λ k. path_at t.groups (get_or ids k 0)) count ∙ here) in
    let named : (k : ℕ) → k < g + 1 → path_at t.groups (get_or ids k 0)
    ≡ Some (get_or (cuts c.push.new.self.items c.push_reserved.new.self.items) k []) =
    λ k low. all k (omega (arith, low, count)) ∙ ap (λ xs. Some (get_or xs k [])) (sym cut_are) in
    let lines = group_lines line (range_with_len 0 g) paths in
    let more_lines : group_lines line (range_with_len 0 (g + 1)) (paths ++ path ∷ [])
    ≡ lines ++ line g path =
    ap (λ gs. group_lines line gs (paths ++ path ∷ [])) (rows-more g)
    ∙ group_lines-push line (range_with_len 0 g) paths g path (rows-length 0 g ∙ sym count) in
    let told : line g path ≡ head ++ path ++ 10 ∷ [] =
    ap (λ id. line_at c.args.line g id path) (sym read.id) ∙ begun.2 path in
    let put : c.push.new.self.items ≡ c.args.answer.now.items
    ++ group_lines line (range_with_len 0 (g + 1)) (paths ++ path ∷ []) =
    wider ∙ parts-append text head path (10 ∷ []) ∙ ap (λ l. text ++ l) (sym told)
    ∙ ap (λ x. x ++ line g path) i.put
    ∙ append_assoc c.args.answer.now.items lines (line g path)
    ∙ ap (λ l. c.args.answer.now.items ++ l) (sym more_lines) in
    record {
      count = ap length longer ∙ length-append spans (span ∷ []) ∙ ap (λ n. n + 1) i.count;
      space = omega (arith, i.space, c.push_reserved.ensures.capacity);
      within = subst (AreWithin (length c.push.new.self.items)) (sym longer)
          (within_push (length text) (length c.push.new.self.items) spans span i.within
          (omega (arith, long_line, long_path, long_head))
          (omega (arith, from, to, long_path)) (omega (arith, to, long_line)));
      named = named;
      found = λ k low. path_leads t read.valid
          (get_or (cuts c.push.new.self.items c.push_reserved.new.self.items) k [])
          (get_or (keys_of t.groups) k 0) (named k low);
      put = put ∙ ap (λ ps. c.args.answer.now.items
          ++ group_lines line (range_with_len 0 (g + 1)) ps) (sym cut_are);
      room = omega (
        arith,
        i.room,
        c.in_ok-put_head.ensures.room,
        c.in_ok-put_path.ensures.room,
        c.in_ok-push.ensures.capacity,
      );
    }

pub returns-clause-ok : goal.returns-clause-ok
returns-clause-ok c =
    let ids = keys_of c.args.tree.now.groups in
    let n = length ids in
    let count : c.loop-g.g ≡ n =
    omega (arith, c.loop-g-test.false, c.loop-g.auto.g-end, c.group_count-count.ensures) in
    let paths = cuts c.loop-g.answer.items c.loop-g.spans.items in (
      paths,
      paths_of_rows c.args.tree.now paths n
          (length-map c.loop-g.spans.items (cut c.loop-g.answer.items)
          ∙ c.loop-g.invariant.count ∙ count)
          (λ k low. c.loop-g.invariant.found k (omega (arith, low, count))),
      c.loop-g.invariant.put
          ∙ ap (λ m. c.args.answer.now.items
          ++ group_lines (line_of c.args.line ids) (range_with_len 0 m) paths) count,
    )
