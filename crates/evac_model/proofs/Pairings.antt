-- Whether actions may be those of entries, by trying each way to part them: where none fits, they aren't.
use Rattle.std.proofs.Common.{◌≡◌, ℕ, Bool, true, false, ◌&&◌, ◌||◌, ◌==◌, List, [], ◌∷◌, ◌++◌, refl, sym, ap, ◌∙◌, inl, inr, arith}
use Rattle.std.proofs.lemmas.Bool.{false≢true}
use Rattle.std.proofs.lemmas.Bool.Decides.{nat_tests}
use Rattle.evac_model.specs.declared.names.FrameNo.{FrameNo}
use Rattle.evac_model.specs.declared.names.Kind.{Kind}
use Rattle.evac_model.specs.declared.names.Kind.TheVariants.{Movable, Unmovable}
use Rattle.evac_model.specs.declared.names.PageNo.{PageNo}
use Rattle.evac_model.specs.declared.call.Call.{Call}
use Rattle.evac_model.specs.declared.call.Call.TheVariants.{Alloc, Free, Read, Write, Add, Pin, Unpin}
use Rattle.evac_model.specs.declared.entry.Entry.{Entry}
use Rattle.evac_model.specs.declared.reply.Reply.{Reply}
use Rattle.evac_model.specs.declared.reply.Reply.TheVariants.{Done, Values, Old, Mapped, NotMapped, Pinned, PinLimit, NotPinned, NoFrame}
use Rattle.evac_model.specs.declared.space.SpaceAction.{SpaceAction}
use Rattle.evac_model.specs.declared.space.SpaceAction.TheVariants.{Lease, MoveLease, Return, Isolate, Undo, Offline, Online}
use Rattle.evac_model.specs.Page.{is_movable}
use Rattle.evac_model.specs.Pairing.{IsMadeByAlloc, IsMadeByFree, IsMadeByCall, AreMadeBy}

abbrev is_same_kind : Kind → Kind → Bool
is_same_kind Movable kind = is_movable kind
is_same_kind Unmovable Movable = false
is_same_kind Unmovable Unmovable = true

-- what is tried with the rest behind a lease for that page and kind, where one comes first
abbrev behind_lease : (who : ℕ) → PageNo → Kind → (FrameNo → List SpaceAction → Bool) → List SpaceAction → Bool
behind_lease who page kind go [] = false
behind_lease who page kind go (Lease w frame p k ∷ rest) =
    w == who && (p.0 == page.0 && (is_same_kind k kind && go frame rest))
behind_lease who page kind go (MoveLease frame p ∷ rest) = false
behind_lease who page kind go (Return w frame ∷ rest) = false
behind_lease who page kind go (Isolate b ∷ rest) = false
behind_lease who page kind go (Undo b ∷ rest) = false
behind_lease who page kind go (Offline b ∷ rest) = false
behind_lease who page kind go (Online b ∷ rest) = false

-- and behind a return
abbrev behind_return : (who : ℕ) → (FrameNo → List SpaceAction → Bool) → List SpaceAction → Bool
behind_return who go [] = false
behind_return who go (Lease w frame p k ∷ rest) = false
behind_return who go (MoveLease frame p ∷ rest) = false
behind_return who go (Return w frame ∷ rest) = w == who && go frame rest
behind_return who go (Isolate b ∷ rest) = false
behind_return who go (Undo b ∷ rest) = false
behind_return who go (Offline b ∷ rest) = false
behind_return who go (Online b ∷ rest) = false

-- and behind a return of that frame
abbrev behind_same : (who : ℕ) → (FrameNo) → (List SpaceAction → Bool) → List SpaceAction → Bool
behind_same who frame go actions = behind_return who (λ f rest. f.0 == frame.0 && go rest) actions

abbrev fits_alloc : (who : ℕ) → PageNo → Kind → Reply → (List SpaceAction → Bool) → List SpaceAction → Bool
fits_alloc who page kind Done go actions = behind_lease who page kind (λ frame rest. go rest) actions
fits_alloc who page kind Mapped go actions =
    go actions || behind_lease who page kind (λ frame rest. behind_same who frame go rest) actions
fits_alloc who page kind (Values values) go actions = go actions
fits_alloc who page kind (Old value) go actions = go actions
fits_alloc who page kind NotMapped go actions = go actions
fits_alloc who page kind Pinned go actions = go actions
fits_alloc who page kind PinLimit go actions = go actions
fits_alloc who page kind NotPinned go actions = go actions
fits_alloc who page kind (NoFrame at) go actions = go actions

abbrev fits_free : (who : ℕ) → Reply → (List SpaceAction → Bool) → List SpaceAction → Bool
fits_free who Done go actions = behind_return who (λ frame rest. go rest) actions
fits_free who Mapped go actions = go actions
fits_free who (Values values) go actions = go actions
fits_free who (Old value) go actions = go actions
fits_free who NotMapped go actions = go actions
fits_free who Pinned go actions = go actions
fits_free who PinLimit go actions = go actions
fits_free who NotPinned go actions = go actions
fits_free who (NoFrame at) go actions = go actions

abbrev fits_call : (who : ℕ) → PageNo → Call → Reply → (List SpaceAction → Bool) → List SpaceAction → Bool
fits_call who page (Alloc kind) reply go actions = fits_alloc who page kind reply go actions
fits_call who page Free reply go actions = fits_free who reply go actions
fits_call who page (Read first count) reply go actions = go actions
fits_call who page (Write first values) reply go actions = go actions
fits_call who page (Add cell value) reply go actions = go actions
fits_call who page Pin reply go actions = go actions
fits_call who page Unpin reply go actions = go actions

abbrev is_empty : List SpaceAction → Bool
is_empty [] = true
is_empty (a ∷ actions) = false

-- whether some way to part the actions fits the entries
abbrev pub fit : List Entry → List SpaceAction → Bool
fit [] actions = is_empty actions
fit (e ∷ es) actions = fits_call e.caller e.page e.call e.reply (λ rest. fit es rest) actions

same : (n : ℕ) → (n == n) ≡ true
same n = grind (arith, nat_tests)

same_kind : (kind : Kind) → is_same_kind kind kind ≡ true
same_kind Movable = refl
same_kind Unmovable = refl

both : (a b : Bool) → a ≡ true → b ≡ true → (a && b) ≡ true
both true b h g = g
both false b h g = h

or_left : (a b : Bool) → a ≡ true → (a || b) ≡ true
or_left true b h = refl
or_left false b h = absurd (false≢true h)

or_right : (a b : Bool) → b ≡ true → (a || b) ≡ true
or_right true b h = refl
or_right false b h = h

lease_fits : (who : ℕ) (page : PageNo) (kind : Kind) (go : FrameNo → List SpaceAction → Bool) (frame : FrameNo) (rest : List SpaceAction) → go frame rest ≡ true → behind_lease who page kind go (Lease who frame page kind ∷ rest) ≡ true
lease_fits who page kind go frame rest h =
    both (who == who) _ (same who) (both (page.0 == page.0) _ (same page.0) (both (is_same_kind kind kind) _ (same_kind kind) h))

return_fits : (who : ℕ) (go : FrameNo → List SpaceAction → Bool) (frame : FrameNo) (rest : List SpaceAction) → go frame rest ≡ true → behind_return who go (Return who frame ∷ rest) ≡ true
return_fits who go frame rest h = both (who == who) _ (same who) h

nothing_fits : (go : List SpaceAction → Bool) (first rest : List SpaceAction) → first ≡ [] → go rest ≡ true → go (first ++ rest) ≡ true
nothing_fits go first rest e h = ap (λ f. go (f ++ rest)) e ∙ h

alloc_fits : (who : ℕ) (page : PageNo) (kind : Kind) (reply : Reply) (go : List SpaceAction → Bool) (first rest : List SpaceAction) → IsMadeByAlloc who page kind reply first → go rest ≡ true → fits_alloc who page kind reply go (first ++ rest) ≡ true
alloc_fits who page kind Done go first rest (frame, e) h =
    ap (λ f. fits_alloc who page kind Done go (f ++ rest)) e ∙ lease_fits who page kind (λ _ r. go r) frame rest h
alloc_fits who page kind Mapped go first rest (inl e) h = or_left (go (first ++ rest)) _ (nothing_fits go first rest e h)
alloc_fits who page kind Mapped go first rest (inr (frame, e)) h =
    or_right (go (first ++ rest)) _
    (ap (λ f. behind_lease who page kind (λ x r. behind_same who x go r) (f ++ rest)) e
    ∙ lease_fits who page kind (λ x r. behind_same who x go r) frame (Return who frame ∷ rest)
    (return_fits who (λ x r. x.0 == frame.0 && go r) frame rest (both (frame.0 == frame.0) _ (same frame.0) h)))
alloc_fits who page kind (Values values) go first rest e h = nothing_fits go first rest e h
alloc_fits who page kind (Old value) go first rest e h = nothing_fits go first rest e h
alloc_fits who page kind NotMapped go first rest e h = nothing_fits go first rest e h
alloc_fits who page kind Pinned go first rest e h = nothing_fits go first rest e h
alloc_fits who page kind PinLimit go first rest e h = nothing_fits go first rest e h
alloc_fits who page kind NotPinned go first rest e h = nothing_fits go first rest e h
alloc_fits who page kind (NoFrame at) go first rest e h = nothing_fits go first rest e h

free_fits : (who : ℕ) (reply : Reply) (go : List SpaceAction → Bool) (first rest : List SpaceAction) → IsMadeByFree who reply first → go rest ≡ true → fits_free who reply go (first ++ rest) ≡ true
free_fits who Done go first rest (frame, e) h =
    ap (λ f. fits_free who Done go (f ++ rest)) e ∙ return_fits who (λ _ r. go r) frame rest h
free_fits who Mapped go first rest e h = nothing_fits go first rest e h
free_fits who (Values values) go first rest e h = nothing_fits go first rest e h
free_fits who (Old value) go first rest e h = nothing_fits go first rest e h
free_fits who NotMapped go first rest e h = nothing_fits go first rest e h
free_fits who Pinned go first rest e h = nothing_fits go first rest e h
free_fits who PinLimit go first rest e h = nothing_fits go first rest e h
free_fits who NotPinned go first rest e h = nothing_fits go first rest e h
free_fits who (NoFrame at) go first rest e h = nothing_fits go first rest e h

call_fits : (who : ℕ) (page : PageNo) (call : Call) (reply : Reply) (go : List SpaceAction → Bool) (first rest : List SpaceAction) → IsMadeByCall who page call reply first → go rest ≡ true → fits_call who page call reply go (first ++ rest) ≡ true
call_fits who page (Alloc kind) reply go first rest e h = alloc_fits who page kind reply go first rest e h
call_fits who page Free reply go first rest e h = free_fits who reply go first rest e h
call_fits who page (Read from count) reply go first rest e h = nothing_fits go first rest e h
call_fits who page (Write from values) reply go first rest e h = nothing_fits go first rest e h
call_fits who page (Add cell value) reply go first rest e h = nothing_fits go first rest e h
call_fits who page Pin reply go first rest e h = nothing_fits go first rest e h
call_fits who page Unpin reply go first rest e h = nothing_fits go first rest e h

made_fit : (es : List Entry) (actions : List SpaceAction) → AreMadeBy es actions → fit es actions ≡ true
made_fit [] actions h = ap is_empty h
made_fit (e ∷ es) actions (first, rest, split, made, more) =
    ap (fit (e ∷ es)) split
    ∙ call_fits e.caller e.page e.call e.reply (λ r. fit es r) first rest made (made_fit es rest more)

-- actions that no way to part them fits aren't the entries'
pub not_made : (es : List Entry) (actions : List SpaceAction) → fit es actions ≡ false → ¬ AreMadeBy es actions
not_made es actions f h = false≢true (sym f ∙ made_fit es actions h)
