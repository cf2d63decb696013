-- What the runs have of a space, and how it changes.
use Rattle.std.proofs.Common.{◌≡◌, ℕ, ◌<◌, Bool, true, false, ◌||◌, ◌&&◌, not, List, refl, sym, ap, ◌∙◌}
use Rattle.std.specs.List.{list_any}
use Rattle.std.specs.Option.{is_some}
use Rattle.std.proofs.lemmas.Bool.{false≢true}
use Rattle.evac_model.specs.declared.names.Kind.{Kind}
use Rattle.evac_model.specs.Geometry.{Sizes, frame_count}
use Rattle.evac_model.specs.Numbers.{numbers_where, is_in}
use Rattle.evac_model.specs.SpaceJournal.{SpaceState, out_for, is_frame_of, is_frame_in, free_frames, with_block, without_block}
use Rattle.evac_model.proofs.Numbers.{numbers_agree, is_in-numbers_where}
use Rattle.buddy.specs.FreeFrames.{FreeFrames, with_frames, with_withdrawn, with_restored, IsNeither}
use Rattle.frame_cache.specs.Drains.{IsDrainable}
use Rattle.space.specs.SpaceInside.{IsSpace, aside_frames, runs_of}

-- whether a frame is out, of an isolated block, or in a cache
abbrev pub is_out : SpaceState → ℕ → Bool
is_out st f = is_some (out_for st f)

abbrev pub is_isolated : Sizes → SpaceState → ℕ → Bool
is_isolated s st f = is_frame_in s st.isolated f

abbrev pub is_cached : SpaceState → ℕ → Bool
is_cached st f = list_any (is_in f) st.caches

-- whether a frame is free, or kept aside
abbrev pub is_free : Sizes → SpaceState → ℕ → Bool
is_free s st f = not (is_out st f) && not (is_isolated s st f) && not (is_cached st f)

abbrev pub is_aside : Sizes → SpaceState → ℕ → Bool
is_aside s st f = not (is_out st f) && is_isolated s st f

pub is_in-free : (s : Sizes) (st : SpaceState) (f : ℕ) → f < frame_count s → is_in f (free_frames s st) ≡ is_free s st f
is_in-free s st f l = is_in-numbers_where (is_free s st) (frame_count s) f l

pub is_in-aside : (s : Sizes) (st : SpaceState) (f : ℕ) → f < frame_count s → is_in f (aside_frames s st) ≡ is_aside s st f
is_in-aside s st f l = is_in-numbers_where (is_aside s st) (frame_count s) f l

-- lists of frames by two tests are those of a space
pub runs_are : (s : Sizes) (online : Kind) (st : SpaceState) (free aside : ℕ → Bool) (withdrawn : List ℕ) → ((f : ℕ) → f < frame_count s → free f ≡ is_free s st f) → ((f : ℕ) → f < frame_count s → aside f ≡ is_aside s st f) → withdrawn ≡ st.isolated → (let r : FreeFrames = record { sizes = s; online = online; free = numbers_where free (frame_count s); aside = numbers_where aside (frame_count s); withdrawn = withdrawn } in r ≡ runs_of s online st)
runs_are s online st free aside withdrawn hf ha hw =
    λ i. record {
      sizes = s;
      online = online;
      free = numbers_agree free (is_free s st) (frame_count s) hf i;
      aside = numbers_agree aside (is_aside s st) (frame_count s) ha i;
      withdrawn = hw i;
    }

-- frames that are given
pub runs_given : (s : Sizes) (online : Kind) (st next : SpaceState) (given : ℕ → Bool) → next.isolated ≡ st.isolated → ((f : ℕ) → f < frame_count s → is_free s next f ≡ (is_free s st f || (given f && not (is_isolated s st f)))) → ((f : ℕ) → f < frame_count s → is_aside s next f ≡ (is_aside s st f || (given f && is_isolated s st f))) → with_frames given (runs_of s online st) ≡ runs_of s online next
runs_given s online st next given hi hf ha =
    runs_are s online next
    (λ f. is_in f (free_frames s st) || (given f && not (is_isolated s st f)))
    (λ f. is_in f (aside_frames s st) || (given f && is_isolated s st f))
    st.isolated
    (λ f l. ap (λ (t : Bool). t || (given f && not (is_isolated s st f))) (is_in-free s st f l) ∙ sym (hf f l))
    (λ f l. ap (λ (t : Bool). t || (given f && is_isolated s st f)) (is_in-aside s st f l) ∙ sym (ha f l))
    (sym hi)

-- a block that is withdrawn
pub runs_withdrawn : (s : Sizes) (online : Kind) (st next : SpaceState) (b : ℕ) → next.isolated ≡ with_block s b st.isolated → ((f : ℕ) → f < frame_count s → is_free s next f ≡ (is_free s st f && not (is_frame_of s b f))) → ((f : ℕ) → f < frame_count s → is_aside s next f ≡ (is_aside s st f || (is_free s st f && is_frame_of s b f))) → with_withdrawn b (runs_of s online st) ≡ runs_of s online next
runs_withdrawn s online st next b hi hf ha =
    runs_are s online next
    (λ f. is_in f (free_frames s st) && not (is_frame_of s b f))
    (λ f. is_in f (aside_frames s st) || (is_in f (free_frames s st) && is_frame_of s b f))
    (with_block s b st.isolated)
    (λ f l. ap (λ (t : Bool). t && not (is_frame_of s b f)) (is_in-free s st f l) ∙ sym (hf f l))
    (λ f l. ap (λ (t : Bool). t || (is_in f (free_frames s st) && is_frame_of s b f)) (is_in-aside s st f l) ∙ ap (λ (t : Bool). is_aside s st f || (t && is_frame_of s b f)) (is_in-free s st f l) ∙ sym (ha f l))
    (sym hi)

-- a block that is restored
pub runs_restored : (s : Sizes) (online : Kind) (st next : SpaceState) (b : ℕ) → next.isolated ≡ without_block b st.isolated → ((f : ℕ) → f < frame_count s → is_free s next f ≡ (is_free s st f || (is_aside s st f && is_frame_of s b f))) → ((f : ℕ) → f < frame_count s → is_aside s next f ≡ (is_aside s st f && not (is_frame_of s b f))) → with_restored b (runs_of s online st) ≡ runs_of s online next
runs_restored s online st next b hi hf ha =
    runs_are s online next
    (λ f. is_in f (free_frames s st) || (is_in f (aside_frames s st) && is_frame_of s b f))
    (λ f. is_in f (aside_frames s st) && not (is_frame_of s b f))
    (without_block b st.isolated)
    (λ f l. ap (λ (t : Bool). t || (is_in f (aside_frames s st) && is_frame_of s b f)) (is_in-free s st f l) ∙ ap (λ (t : Bool). is_free s st f || (t && is_frame_of s b f)) (is_in-aside s st f l) ∙ sym (hf f l))
    (λ f l. ap (λ (t : Bool). t && not (is_frame_of s b f)) (is_in-aside s st f l) ∙ sym (ha f l))
    (sym hi)

-- a frame that is neither free nor kept aside
pub neither : (s : Sizes) (online : Kind) (st : SpaceState) (f : ℕ) → f < frame_count s → is_free s st f ≡ false → is_aside s st f ≡ false → IsNeither (runs_of s online st) f
neither s online st f l hf ha = (is_in-free s st f l ∙ hf, is_in-aside s st f l ∙ ha)

-- a frame that is out is neither
not_free_out : (o i c : Bool) → o ≡ true → (not o && not i && not c) ≡ false
not_free_out true i c h = refl
not_free_out false i c h = absurd (false≢true h)

not_aside_out : (o i : Bool) → o ≡ true → (not o && i) ≡ false
not_aside_out true i h = refl
not_aside_out false i h = absurd (false≢true h)

pub neither_out : (s : Sizes) (online : Kind) (st : SpaceState) (f : ℕ) → f < frame_count s → is_out st f ≡ true → IsNeither (runs_of s online st) f
neither_out s online st f l h =
    neither s online st f l (not_free_out (is_out st f) (is_isolated s st f) (is_cached st f) h) (not_aside_out (is_out st f) (is_isolated s st f) h)

-- so is one in a cache, which isn't isolated
not_free_cached : (o i c : Bool) → c ≡ true → (not o && not i && not c) ≡ false
not_free_cached o i false h = absurd (false≢true h)
not_free_cached true i true h = refl
not_free_cached false true true h = refl
not_free_cached false false true h = refl

not_aside_cached : (o i : Bool) → i ≡ false → (not o && i) ≡ false
not_aside_cached true i h = refl
not_aside_cached false i h = h

pub neither_cached : (s : Sizes) (online : Kind) (st : SpaceState) (f : ℕ) → IsSpace s online st → is_cached st f ≡ true → IsNeither (runs_of s online st) f
neither_cached s online st f h c =
    neither s online st f (h.cached_there f c)
    (not_free_cached (is_out st f) (is_isolated s st f) (is_cached st f) c)
    (not_aside_cached (is_out st f) (is_isolated s st f) (h.cached_not_isolated f c))

pub drainable : (s : Sizes) (online : Kind) (st : SpaceState) → IsSpace s online st → IsDrainable st.caches (runs_of s online st)
drainable s online st h = record {
  distinct = h.distinct;
  givable = λ f c. (h.cached_there f c, neither_cached s online st f h c);
}
