-- Where the frames are once all owners and the host have ended: those that are out are the mapped pages', and the
-- offline blocks are those that aren't plugged.
use Rattle.std.proofs.Common.{◌≡◌, ℕ, zero, suc, ◌+◌, ◌<◌, ◌≤◌, Bool, true, false, ◌&&◌, ◌||◌, not, nat_lt, List, [], ◌∷◌, length, length-take, map, drop, is_some, refl, sym, ap, ◌∙◌, subst, arith, Option, Some, None, IsSome}
use Rattle.std.specs.Option.{option_map}
use Rattle.std.proofs.Math.Bool.{or-false}
use Rattle.std.proofs.lemmas.Bool.Decides.{nat_tests}
use Rattle.std.proofs.lemmas.List.{get_or_past}
use Rattle.std.proofs.lemmas.Option.{none-some, same_Some, slice_get-get_or}
use mathlib.Core.Logic.{dite}
use native.Mathlib.Decide.{ℕ_discrete, dec_lt}
use Rattle.evac_model.specs.declared.names.Kind.{Kind}
use Rattle.evac_model.specs.declared.names.PageNo.{PageNo}
use Rattle.evac_model.specs.declared.call.Call.{Call}
use Rattle.evac_model.specs.declared.scenario.Scenario.{Scenario}
use Rattle.evac_model.specs.Geometry.{Sizes, frame_count}
use Rattle.evac_model.specs.DeviceAnswer.{unplugged_blocks}
use Rattle.evac_model.specs.Numbers.{is_in}
use Rattle.evac_model.specs.Page.{PlainPage, Page}
use Rattle.evac_model.specs.Pairing.{AreOutForPages, AreUnplugged}
use Rattle.evac_model.specs.Scenarios.{IsRunnable}
use Rattle.evac_model.specs.ScenarioGrammar.{online_of}
use Rattle.evac_model.specs.SpaceJournal.{Out, out_for}
use Rattle.evac_model.proofs.Numbers.{is_in-numbers_where, is_in-numbers_where_past}
use Rattle.evac_model.specs.State.{PlainState, page_at}
use Rattle.evac_words.specs.Word.{mapped_bit, frame_of, bit_of}
use Rattle.core_state.specs.declared.hand.HandFrame.{HandFrame}
use Rattle.core_state.specs.declared.view.View.{View}
use Rattle.core_state.specs.Frames.{all_entry_words, times_mapped}
use Rattle.core_state.specs.Pages.{Flagged, FreeShows}
use Rattle.core_state.specs.Views.{view_of, spent, hand_frame, times_in_hand, times_in_hands, maps_to}
use Rattle.core_state.specs.Words.{entry_word_of, kind_in}
use Rattle.core_state.proofs.Cells.{at_entry}
use Rattle.core_state.proofs.Frames.{maps_to-is}
use Rattle.core_state.proofs.Lists.{sum_by_member, sum_by_none, member_le_sum_by, within}
use Rattle.core_actors.specs.declared.place.Place.{Place}
use Rattle.core_actors.specs.declared.place.Place.TheVariants.{Between, InCall}
use Rattle.core_actors.specs.Fits.{has_at, seat_has, IsSeatWith}
use Rattle.core_actors.specs.Places.{frame_owed}
use Rattle.core_actors.specs.Owners.{OwnerState, owner_at_start, owner_ended, are_none, is_nothing}
use Rattle.space.specs.SpaceInside.{IsSpace}
use Rattle.space.proofs.BlockFrames.{frame_in_witness, frame_in_from}
use Rattle.machine.specs.World.{HasFrame, scanner_seat, free_seat, unplugged_seat, space_now, unplugged_now, device_at, device_now, is_held}
use Rattle.machine.proofs.SpaceNow.{space_is, offline_not_out}
use Rattle.replay.specs.Keeping.{IsKept}
use Rattle.replay.specs.Running.{Running, owner_of}
use Rattle.replay.specs.Runs.{opening, setting, HaveEnded}
use Rattle.report.specs.ReportOf.{block_list}
use Rattle.replay.proofs.Acting.{setting_fits}
use Rattle.replay.proofs.EndHost.{none_held_at_end, none_in_hand_at_end}

-- ---- an owner that has ended

-- it has no frame in hand
ended_at : (size cells : ℕ) (place : Place) (left : List (PageNo × Call)) (v : View) (frame : ℕ) → (are_none left && is_nothing (frame_owed place)) ≡ true → IsSeatWith size left (has_at cells place left) v → hand_frame v frame ≡ None
ended_at size cells (Between None) left v frame ended has = has.hand frame
ended_at size cells (Between (Some f)) [] v frame ended has = absurd cc
ended_at size cells (Between (Some f)) (c ∷ cs) v frame ended has = absurd cc
ended_at size cells (InCall at) [] v frame ended has = has.hand frame
ended_at size cells (InCall at) (c ∷ cs) v frame ended has = absurd cc

ended_hand : (size : ℕ) (a : OwnerState) (v : View) (frame : ℕ) → owner_ended a ≡ true → IsSeatWith size a.left (seat_has a) v → hand_frame v frame ≡ None
ended_hand size a v frame ended has = ended_at size a.cells a.place a.left v frame ended has

-- ---- a frame that is out

empty_place : (x : Option HandFrame) → ¬ IsSome x → x ≡ None
empty_place None h = refl
empty_place (Some x) h = absurd (h refl)

-- a word that says nothing maps nothing
unmapped_flags : (w : ℕ) → Flagged w None → mapped_bit w ≡ 1 → ⊥
unmapped_flags w flags mapped = omega arith

-- the page that a mapped word shows has its kind
kind_shown : (w : ℕ) (m : Page) → mapped_bit w ≡ 1 → Flagged w m → option_map (λ p. p.kind) m ≡ Some (kind_in w)
kind_shown w None mapped flags = absurd (unmapped_flags w flags mapped)
kind_shown w (Some p) mapped flags = ap (λ (k : Kind). Some k) (sym flags.1)

module _ (s : Scenario) (m : Running) (r : IsRunnable s) (kept : IsKept s m) (ended : HaveEnded m) where
  abbrev word_of : ℕ → ℕ
  word_of page = entry_word_of m.world.snapshot.words page

  space_here : IsSpace s.geometry (online_of s) (space_now (setting s) m.world)
  space_here = space_is (setting s) m.world (setting_fits s r) kept.world

  -- the page whose word maps the frame, which is out for it
  record IsMappedBy (frame : ℕ) (x : Out) : Type 0 where
    pub page : ℕ
    pub low : page < s.geometry.pages
    pub mapped : mapped_bit (word_of page) ≡ 1
    pub frame_is : frame_of (word_of page) ≡ frame
    pub out : x ≡ record { page = page; kind = kind_in (word_of page) }

  module _ (frame : ℕ) (x : Out) (out : out_for (space_now (setting s) m.world) frame ≡ Some x) where
    there : frame < frame_count s.geometry
    there = dite (dec_lt frame (frame_count s.geometry))
        (λ lt. lt)
        (λ ge. absurd (none-some x (sym (get_or_past (space_now (setting s) m.world).out frame None (let long = space_here.out in omega arith)) ∙ out)))

    not_free : ¬ HasFrame m.world (free_seat (setting s)) frame
    not_free has = none-some x (sym ((kept.world.free frame there).0 has).0 ∙ out)

    -- a frame of a block that isn't plugged is not out
    not_unplugged : ¬ HasFrame m.world (unplugged_seat (setting s)) frame
    not_unplugged has =
        let w = frame_in_witness s.geometry (unplugged_now (setting s) m.world) frame ((kept.world.unplugged frame there).0 has) in
        let off : is_in w.0 (space_now (setting s) m.world).offline ≡ true = kept.world.offline w.0 ∙ ap (λ (t : Bool). t || is_held (setting s) m.world w.0) w.1 in
        none-some x (sym (offline_not_out (setting s) m.world (setting_fits s r) kept.world frame (frame_in_from s.geometry (space_now (setting s) m.world).offline w.0 frame off w.2)) ∙ out)

    in_owners_hand : (i : ℕ) → i < length m.owners → hand_frame (view_of m.world.snapshot.views (suc i)) frame ≡ None
    in_owners_hand i lt =
        let at = slice_get-get_or m.owners i (owner_at_start 0 0 []) lt in
        let has = slice_get-get_or m.world.snapshot.views (suc i) spent (let n = kept.seats.owners in let k = kept.world.seats in omega arith) in
        let fits = kept.seats.fits i (owner_of m.owners (suc i)) (view_of m.world.snapshot.views (suc i)) at has in
        ended_hand (opening s).cells (owner_of m.owners (suc i)) (view_of m.world.snapshot.views (suc i)) frame (ended.owners i (owner_of m.owners (suc i)) at) fits.1.has

    in_hand_at : (seat : ℕ) → seat < length s.owners + 4 → hand_frame (view_of m.world.snapshot.views seat) frame ≡ None
    in_hand_at zero lt = empty_place _ (none_in_hand_at_end s m kept.host ended.host frame)
    in_hand_at (suc i) lt = dite (dec_lt i (length s.owners))
        (λ owner. in_owners_hand i (let n = kept.seats.owners in omega arith))
        (λ past. dite (ℕ_discrete i (length s.owners))
        (λ e. ap (λ (k : ℕ). hand_frame (view_of m.world.snapshot.views k) frame) (let same : suc i ≡ scanner_seat (setting s) = omega arith in same) ∙ kept.world.scanner frame)
        (λ ne. dite (ℕ_discrete i (length s.owners + 1))
        (λ e. ap (λ (k : ℕ). hand_frame (view_of m.world.snapshot.views k) frame) (let same : suc i ≡ free_seat (setting s) = omega arith in same) ∙ empty_place _ not_free)
        (λ other. ap (λ (k : ℕ). hand_frame (view_of m.world.snapshot.views k) frame) (let same : suc i ≡ unplugged_seat (setting s) = omega arith in same) ∙ empty_place _ not_unplugged)))

    in_no_hand : times_in_hands frame m.world.snapshot.views ≡ 0
    in_no_hand = sum_by_none (λ v. times_in_hand frame v) m.world.snapshot.views (λ seat v has.
        let lt = within m.world.snapshot.views seat v has in
        let k = kept.world.seats in
        let at = slice_get-get_or m.world.snapshot.views seat spent lt in
        let same : view_of m.world.snapshot.views seat ≡ v = same_Some _ v (sym at ∙ has) in
        ap (λ (w : View). times_in_hand frame w) (sym same) ∙ ap (λ (y : Option HandFrame). bit_of (is_some y)) (in_hand_at seat (omega arith)))

    mapped_once : times_mapped (opening s) frame m.world.snapshot.words ≡ 1
    mapped_once = let once = kept.world.sound.frames.each_once frame there in let none = in_no_hand in omega arith

    mapped_by : IsMappedBy frame x
    mapped_by =
        let entry_words = all_entry_words (opening s) m.world.snapshot.words in
        let once = mapped_once in
        let w = sum_by_member (λ y. maps_to frame y) entry_words (omega arith) in
        let low : w.0 < s.geometry.pages = let a = within entry_words w.0 w.1 w.2 in let b = length-take s.geometry.pages (drop 1 m.world.snapshot.words) in omega arith in
        let word : word_of w.0 ≡ w.1 = same_Some _ w.1 (sym (at_entry (opening s) m.world.snapshot.words w.0 kept.world.sound.shaped low) ∙ w.2) in
        let one : maps_to frame w.1 ≡ 1 = let most = member_le_sum_by (λ y. maps_to frame y) entry_words w.0 w.1 w.2 in let some = w.3 in omega arith in
        let is = maps_to-is frame w.1 one in
        let mapped : mapped_bit (word_of w.0) ≡ 1 = ap (λ y. mapped_bit y) word ∙ is.0 in
        let same : frame_of (word_of w.0) ≡ frame = ap (λ y. frame_of y) word ∙ is.1 in
        record {
          page = w.0;
          low = low;
          mapped = mapped;
          frame_is = same;
          out = sym (same_Some _ x (sym (kept.world.mapped w.0 low mapped) ∙ ap (λ (f : ℕ). out_for (space_now (setting s) m.world) f) same ∙ out));
        }

  module _ (pages : PlainState) (shown : (page : ℕ) → page < s.geometry.pages → FreeShows (opening s) m.world.snapshot.words (word_of page) (page_at pages page))
      (low : (page : ℕ) (p : PlainPage) → page_at pages page ≡ Some p → page < s.geometry.pages) where
    out_at_end : AreOutForPages (space_now (setting s) m.world) pages
    out_at_end = record {
      out = λ frame x out.
          let by = mapped_by frame x out in
          subst (λ (y : Out). option_map (λ p. p.kind) (page_at pages y.page) ≡ Some y.kind) (sym by.out)
          (kind_shown (word_of by.page) (page_at pages by.page) by.mapped (shown by.page by.low).shows.flags);
      mapped = λ page p is.
          let lt = low page p is in
          let flags = subst (λ (q : Page). Flagged (word_of page) q) is (shown page lt).shows.flags in
          (frame_of (word_of page), kept.world.mapped page lt flags.0 ∙ ap (λ (k : Kind). Some (record { page = page; kind = k })) flags.1);
      once = λ frame other x y out also same.
          let by = mapped_by frame x out in
          let too = mapped_by other y also in
          let page : by.page ≡ too.page = ap (λ (z : Out). z.page) (sym by.out) ∙ same ∙ ap (λ (z : Out). z.page) too.out in
          sym by.frame_is ∙ ap (λ (k : ℕ). frame_of (word_of k)) page ∙ too.frame_is;
    }

pub frames_at_end : (s : Scenario) (m : Running) → IsRunnable s → IsKept s m → HaveEnded m → (pages : PlainState)
    → ((page : ℕ) → page < s.geometry.pages → FreeShows (opening s) m.world.snapshot.words (entry_word_of m.world.snapshot.words page) (page_at pages page))
    → ((page : ℕ) (p : PlainPage) → page_at pages page ≡ Some p → page < s.geometry.pages)
    → AreOutForPages (space_now (setting s) m.world) pages
frames_at_end s m r kept ended pages shown low = out_at_end s m r kept ended pages shown low

-- ---- the offline blocks

numbers_back : (blocks : List ℕ) → map (λ b. b.0) (block_list blocks) ≡ blocks
numbers_back [] = refl
numbers_back (b ∷ blocks) = ap (λ (l : List ℕ). b ∷ l) (numbers_back blocks)

-- the unplugged blocks are the managed ones that aren't plugged
among_unplugged : (g : Sizes) (plugged : List ℕ) (block : ℕ) → is_in block (unplugged_blocks g plugged) ≡ (nat_lt block g.managed && not (is_in block plugged))
among_unplugged g plugged block = dite (dec_lt block g.managed)
    (λ lt. is_in-numbers_where (λ b. not (is_in b plugged)) g.managed block lt ∙ ap (λ (t : Bool). t && not (is_in block plugged)) (sym (below block lt)))
    (λ ge. is_in-numbers_where_past (λ b. not (is_in b plugged)) g.managed block (omega arith) ∙ ap (λ (t : Bool). t && not (is_in block plugged)) (sym (past block (omega arith))))
  where
    below : (b : ℕ) → b < g.managed → nat_lt b g.managed ≡ true
    below b lt = grind (arith, nat_tests)

    past : (b : ℕ) → g.managed ≤ b → nat_lt b g.managed ≡ false
    past b ge = grind (arith, nat_tests)

pub unplugged_at_end : (s : Scenario) (m : Running) → IsKept s m → HaveEnded m → AreUnplugged s.geometry (space_now (setting s) m.world) (block_list (device_at s.geometry m.world.device).plugged)
unplugged_at_end s m kept ended = λ block.
    kept.world.offline block
    ∙ (ap (λ (t : Bool). is_in block (unplugged_now (setting s) m.world) || t) (none_held_at_end s m kept.host ended.host block)
    ∙ (or-false (is_in block (unplugged_now (setting s) m.world))
    ∙ (among_unplugged s.geometry (device_now (setting s) m.world).plugged block
    ∙ sym (ap (λ (l : List ℕ). nat_lt block s.geometry.managed && not (is_in block l)) (numbers_back (device_now (setting s) m.world).plugged)))))
