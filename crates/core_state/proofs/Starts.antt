-- What a core is opened with, start page by start page.
use Rattle.std.proofs.Common.{◌≡◌, ℕ, suc, ◌+◌, ◌-◌, ◌<◌, ◌≤◌, List, [], ◌∷◌, ◌++◌, length, take, drop, get_or, length-set, length-append, append_assoc, Option, None, Some, sym, ap, ◌∙◌, arith, mul-le-mul_right}
use Rattle.std.proofs.lemmas.List.{length-replicate, length-take, take_more}
use Rattle.evac_model.specs.declared.scenario.StartPage.{StartPage}
use Rattle.evac_model.specs.Geometry.{Sizes, IsWithinLimits, frame_count}
use Rattle.evac_model.specs.Page.{Page, new_page}
use Rattle.evac_model.specs.StartPages.{IsStartPage, AreStartPages}
use Rattle.evac_model.proofs.Lists.{all_at}
use Rattle.evac_words.specs.Table.{entry_index, table_length}
use Rattle.core_state.specs.declared.hand.HandFrame.{HandFrame}
use Rattle.core_state.specs.declared.view.View.{View}
use Rattle.core_state.specs.Words.{mapped_word}
use Rattle.core_state.specs.CoreOpens.{start_pages, opening_words, frames_there, fresh_frame, empty_places, fresh_places, free_hand, unplugged_hand, owner_view, owner_views, spare_at_start}
use Rattle.core_state.specs.Steps.{nothing_known}

pub length-start_pages : (s : Sizes) (ps : List StartPage) → length (start_pages s ps) ≡ s.pages
length-start_pages s [] = length-replicate s.pages None
length-start_pages s (p ∷ ps) = length-set (start_pages s ps) p.page.0 (Some (new_page s.cells p.kind)) ∙ length-start_pages s ps

pub length-opening_words : (s : Sizes) (ps : List StartPage) → length (opening_words s ps) ≡ table_length s.pages (frame_count s) s.cells
length-opening_words s [] = length-replicate (table_length s.pages (frame_count s) s.cells) 0
length-opening_words s (p ∷ ps) = length-set (opening_words s ps) (entry_index p.page.0) (mapped_word 0 p.frame.0 p.kind) ∙ length-opening_words s ps

pub there_within : (s : Sizes) → IsWithinLimits s → frames_there s ≤ frame_count s
there_within s w = let a = w.plugged in mul-le-mul_right s.block (omega arith)

pub length-unplugged_hand : (s : Sizes) → IsWithinLimits s → length (unplugged_hand s) ≡ frame_count s
length-unplugged_hand s w =
    let a = length-append (empty_places (frames_there s)) (fresh_places s.cells (frame_count s - frames_there s)) in
    let b = length-replicate {A = Option HandFrame} (frames_there s) None in
    let c = length-replicate {A = Option HandFrame} (frame_count s - frames_there s) (Some (fresh_frame s.cells)) in
    let d = there_within s w in omega arith

pub length-free_hand : (s : Sizes) (ps : List StartPage) → IsWithinLimits s → length (free_hand s ps) ≡ frame_count s
length-free_hand s [] w =
    let a = length-append (fresh_places s.cells (frames_there s)) (empty_places (frame_count s - frames_there s)) in
    let b = length-replicate {A = Option HandFrame} (frames_there s) (Some (fresh_frame s.cells)) in
    let c = length-replicate {A = Option HandFrame} (frame_count s - frames_there s) None in
    let d = there_within s w in omega arith
length-free_hand s (p ∷ ps) w = length-set (free_hand s ps) p.frame.0 None ∙ length-free_hand s ps w

pub length-spare_at_start : (s : Sizes) (ps : List StartPage) → length (spare_at_start s ps) ≡ frame_count s
length-spare_at_start s [] = length-replicate (frame_count s) None
length-spare_at_start s (p ∷ ps) = length-set (spare_at_start s ps) p.frame.0 (Some (nothing_known s.cells)) ∙ length-spare_at_start s ps

-- a start page, read at its place
pub start_at : (s : Sizes) (ps : List StartPage) (i : ℕ) (d : StartPage) → AreStartPages s ps → i < length ps → IsStartPage s (get_or ps i d)
start_at s ps i d are lt = all_at (IsStartPage s) ps are.each i d lt

pub frame_within : (s : Sizes) (p : StartPage) → IsWithinLimits s → IsStartPage s p → p.frame.0 < frame_count s
frame_within s p w is = let a = there_within s w in let b = is.frame in omega arith

pub start_page_small : (s : Sizes) (ps : List StartPage) (i : ℕ) (d : StartPage) → IsWithinLimits s → AreStartPages s ps → i < length ps → (get_or ps i d).page.0 < 65536
start_page_small s ps i d w are lt = let a = (start_at s ps i d are lt).page in let b = w.pages.1 in omega arith

pub start_frame_small : (s : Sizes) (ps : List StartPage) (i : ℕ) (d : StartPage) → IsWithinLimits s → AreStartPages s ps → i < length ps → (get_or ps i d).frame.0 < 65536
start_frame_small s ps i d w are lt = let a = frame_within s (get_or ps i d) w (start_at s ps i d are lt) in let b = w.frames in omega arith

-- the seat of one more owner
pub owner_views-push : (s : Sizes) (k : ℕ) (ns : List ℕ) (n : ℕ) → owner_views s k (ns ++ n ∷ []) ≡ owner_views s k ns ++ owner_view s (k + length ns) n ∷ []
owner_views-push s k [] n = let e : k ≡ k + 0 = omega arith in ap (λ (m : ℕ). owner_view s m n ∷ []) e
owner_views-push s k (m ∷ ns) n = let e : k + 1 + length ns ≡ k + suc (length ns) = omega arith in
    ap (λ (vs : List View). owner_view s k m ∷ vs) (owner_views-push s (k + 1) ns n)
    ∙ ap (λ (j : ℕ). owner_view s k m ∷ (owner_views s (k + 1) ns ++ owner_view s j n ∷ [])) e

pub owners_more : (s : Sizes) (old views : List View) (ns : List ℕ) (i d : ℕ) → i < length ns → views ≡ old ++ owner_views s 1 (take i ns) → views ++ owner_view s (i + 1) (get_or ns i d) ∷ [] ≡ old ++ owner_views s 1 (take (i + 1) ns)
owners_more s old views ns i d lt is =
    let e : 1 + length (take i ns) ≡ i + 1 = let a = length-take i ns in omega arith in
    ap (λ (vs : List View). vs ++ owner_view s (i + 1) (get_or ns i d) ∷ []) is
    ∙ append_assoc old (owner_views s 1 (take i ns)) (owner_view s (i + 1) (get_or ns i d) ∷ [])
    ∙ ap (λ (vs : List View). old ++ vs)
    (ap (λ (j : ℕ). owner_views s 1 (take i ns) ++ owner_view s j (get_or ns i d) ∷ []) (sym e)
    ∙ sym (owner_views-push s 1 (take i ns) (get_or ns i d))
    ∙ ap (λ (l : List ℕ). owner_views s 1 l) (sym (take_more ns i d lt)))

pub start_page_within : (s : Sizes) (ps : List StartPage) (i j n : ℕ) (d : StartPage) (pages : List Page) → AreStartPages s ps → i < length ps → pages ≡ start_pages s (drop j ps) → length pages ≡ n → (get_or ps i d).page.0 < n
start_page_within s ps i j n d pages are lt is size =
    let a = (start_at s ps i d are lt).page in
    let b = length-start_pages s (drop j ps) in
    let e = ap (λ (l : List Page). length l) is in
    omega arith

pub start_frame_within : (s : Sizes) (ps : List StartPage) (i j n : ℕ) (d : StartPage) (spare : List (Option (List (Option ℕ)))) → IsWithinLimits s → AreStartPages s ps → i < length ps → spare ≡ spare_at_start s (drop j ps) → length spare ≡ n → (get_or ps i d).frame.0 < n
start_frame_within s ps i j n d spare w are lt is size =
    let a = frame_within s (get_or ps i d) w (start_at s ps i d are lt) in
    let b = length-spare_at_start s (drop j ps) in
    let e = ap (λ (l : List (Option (List (Option ℕ)))). length l) is in
    omega arith
