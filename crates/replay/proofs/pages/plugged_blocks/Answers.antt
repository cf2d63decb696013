use Rattle.std.proofs.Common.{◌≡◌, Vec, Global, ℕ, ◌+◌, Bool, true, false, cond, List, [], ◌∷◌, ◌++◌, filter, append-nil, refl, sym, ap, ◌∙◌, arith}
use Rattle.std.specs.List.{range_with_len}
use Rattle.std.proofs.lemmas.List.{map-id, map-append}
use Rattle.std.proofs.lemmas.List.Elements.{filter-append}
use Rattle.std.proofs.lemmas.List.FromFn.{map-range_with_len_more}
use Rattle.evac_model.specs.declared.names.BlockNo.{BlockNo}
use Rattle.evac_model.specs.Numbers.{is_in, numbers_where}
use Rattle.report.specs.ReportOf.{block_list}
use Rattle.replay.proofs.pages.plugged_blocks.Goals.{then-plugged+in_ok-push, else-plugged}
use Rattle.replay.proofs.pages.plugged_blocks.Goals as goal

one_more : (n : ℕ) → range_with_len 0 (n + 1) ≡ range_with_len 0 n ++ n ∷ []
one_more n = sym (map-id (range_with_len 0 (n + 1))) ∙ (map-range_with_len_more (λ (x : ℕ). x) 0 n n (omega arith) ∙ ap (λ (l : List ℕ). l ++ n ∷ []) (map-id (range_with_len 0 n)))

abbrev block_if : Bool → (n : ℕ) → List BlockNo
block_if t n = cond t (record { 0 = n } ∷ []) []

blocks_of_one : (t : Bool) (n : ℕ) → block_list (cond t (n ∷ []) []) ≡ block_if t n
blocks_of_one true n = refl
blocks_of_one false n = refl

-- the blocks below the next number are those below this one, and this one if it passes
next_block : (p : ℕ → Bool) (n : ℕ) → block_list (numbers_where p (n + 1)) ≡ block_list (numbers_where p n) ++ block_if (p n) n
next_block p n =
    ap (λ (l : List ℕ). block_list (filter p l)) (one_more n)
    ∙ (ap (λ (l : List ℕ). block_list l) (filter-append p (range_with_len 0 n) (n ∷ []))
    ∙ (map-append (λ (b : ℕ). record { 0 = b }) (numbers_where p n) (cond (p n) (n ∷ []) [])
    ∙ ap (λ (l : List BlockNo). block_list (numbers_where p n) ++ l) (blocks_of_one (p n) n)))

after_block : (p : ℕ → Bool) (n : ℕ) (before after : List BlockNo) (t : Bool) → before ≡ block_list (numbers_where p n) → p n ≡ t → after ≡ before ++ block_if t n → after ≡ block_list (numbers_where p (n + 1))
after_block p n before after t so_far is pushed =
    pushed
    ∙ (ap (λ (l : List BlockNo). l ++ block_if t n) so_far
    ∙ (ap (λ (u : Bool). block_list (numbers_where p n) ++ block_if u n) (sym is)
    ∙ sym (next_block p n)))

pub loop-b-preserved : goal.loop-b-preserved
loop-b-preserved c =
    let p : ℕ → Bool = λ b. is_in b c.args.map.now.plugged in
    let before = c.loop-b.blocks.items in
    let after = c.if-plugged.blocks.items in
    elim c.if-plugged.branch [
      | then-plugged+in_ok-push w ↦ after_block p c.loop-b.b before after true c.loop-b.invariant (sym c.plugged.ensures ∙ w.if-plugged.true) (ap (λ (v : Vec BlockNo Global). v.items) w.blocks-is ∙ w.in_ok-push.ensures.items)
      | else-plugged w ↦ after_block p c.loop-b.b before after false c.loop-b.invariant (sym c.plugged.ensures ∙ w.if-plugged.false) (ap (λ (v : Vec BlockNo Global). v.items) w.blocks-is ∙ sym (append-nil before))
    ]
