-- What the fields of a resize keep.
use Rattle.std.proofs.Common.{◌≡◌, ◌≢◌, ℕ, zero, suc, ◌+◌, ◌<◌, ◌≤◌, Bool, true, false, List, [], ◌∷◌, ◌++◌, append-nil, length, Option, None, Some, refl, ap, sym, ◌∙◌, if◌then◌else◌, nat_lt, ◌==◌, arith}
use Rattle.std.specs.Prelude.{slice_get}
use Rattle.std.specs.List.{range_with_len, filter}
use Rattle.std.proofs.lemmas.List.{map-id}
use Rattle.std.proofs.lemmas.List.FromFn.{filter_of_map_range_with_len_more}
use Rattle.std.proofs.lemmas.Bool.Decides.{nat_tests}
use Rattle.evac_model.specs.Geometry.{Sizes}
use Rattle.evac_model.specs.Numbers.{IsRisingBelow, is_in, numbers_where}
use Rattle.evac_model.proofs.Numbers.{length-numbers_where}
use Rattle.resize.specs.declared.stage.Stage.{Stage}
use Rattle.resize.specs.declared.stage.Stage.TheVariants.{Plugging, Joining, Evacuating, Leaving, Zeroing, Unplugging, Returning, Settled, Short}
use Rattle.resize.specs.ResizeInside.{is_over, IsOnSide, HasRoom}
use Rattle.resize.specs.Trying.{stage_for}

pub rising_few : (s : Sizes) (plugged : List ℕ) → IsRisingBelow s.managed plugged → length plugged ≤ s.managed
rising_few s plugged rising =
    let few = length-numbers_where (λ b. is_in b plugged) s.managed in
    let same = ap (λ (bs : List ℕ). length bs) rising in omega arith

side_end : (goal plugged : ℕ) (t : Bool) → IsOnSide goal plugged (if t then Settled else Short)
side_end goal plugged true = tt
side_end goal plugged false = tt

side_next : (goal plugged b : ℕ) (t u : Bool) → (plugged == goal) ≡ t → nat_lt plugged goal ≡ u → IsOnSide goal plugged (if t then Settled else if u then Plugging (record { 0 = b }) else Evacuating (record { 0 = b }))
side_next goal plugged b true u e f = tt
side_next goal plugged b false true e f = grind (arith, nat_tests)
side_next goal plugged b false false e f =
    let apart : plugged ≢ goal = grind (arith, nat_tests) in
    let not_below : goal ≤ plugged = grind (arith, nat_tests) in omega arith

pub side_for : (goal plugged : ℕ) (o : Option ℕ) → IsOnSide goal plugged (stage_for goal plugged o)
side_for goal plugged None = side_end goal plugged (plugged == goal)
side_for goal plugged (Some b) = side_next goal plugged b (plugged == goal) (nat_lt plugged goal) refl refl

room_end : (used blocks room : ℕ) (t : Bool) → HasRoom used blocks room (if t then Settled else Short)
room_end used blocks room true = tt
room_end used blocks room false = tt

room_next : (used blocks room b : ℕ) (t u : Bool) → used < blocks → blocks ≤ room → HasRoom used blocks room (if t then Settled else if u then Plugging (record { 0 = b }) else Evacuating (record { 0 = b }))
room_next used blocks room b true u l h = tt
room_next used blocks room b false true l h = (l, h)
room_next used blocks room b false false l h = (l, h)

found_below : (xs : List ℕ) (i b : ℕ) → slice_get xs i ≡ Some b → i < length xs
found_below [] i b e = let never : None ≡ Some b = e in cc
found_below (x ∷ xs) zero b e = omega arith
found_below (x ∷ xs) (suc i) b e = let below = found_below xs i b e in omega arith

room_by : (goal plugged used blocks room : ℕ) (o : Option ℕ) → ((b : ℕ) → o ≡ Some b → used < blocks) → blocks ≤ room → HasRoom used blocks room (stage_for goal plugged o)
room_by goal plugged used blocks room None below h = room_end used blocks room (plugged == goal)
room_by goal plugged used blocks room (Some b) below h = room_next used blocks room b (plugged == goal) (nat_lt plugged goal) (below b refl) h

pub room_for : (goal plugged used blocks room : ℕ) (xs : List ℕ) → blocks ≡ length xs → blocks ≤ room → HasRoom used blocks room (stage_for goal plugged (slice_get xs used))
room_for goal plugged used blocks room xs e h =
    room_by goal plugged used blocks room (slice_get xs used) (λ b found. let below = found_below xs used b found in omega arith) h

pub going_room : (used blocks room : ℕ) (stage : Stage) → is_over stage ≡ false → HasRoom used blocks room stage → (used < blocks) × (blocks ≤ room)
going_room used blocks room (Plugging b) going h = h
going_room used blocks room (Joining b state) going h = h
going_room used blocks room (Evacuating b) going h = h
going_room used blocks room (Leaving b) going h = h
going_room used blocks room (Zeroing b) going h = h
going_room used blocks room (Unplugging b) going h = h
going_room used blocks room (Returning b response) going h = h
going_room used blocks room Settled going h = let never : true ≡ false = going in cc
going_room used blocks room Short going h = let never : true ≡ false = going in cc

-- the numbers below one more
pub numbers_more : (p : ℕ → Bool) (n : ℕ) → numbers_where p (n + 1) ≡ numbers_where p n ++ (if p n then n ∷ [] else [])
numbers_more p n =
    ap (λ (bs : List ℕ). filter p bs) (sym (map-id (range_with_len 0 (n + 1))))
    ∙ filter_of_map_range_with_len_more p (λ (x : ℕ). x) 0 n n (omega arith)
    ∙ ap (λ (bs : List ℕ). filter p bs ++ (if p n then n ∷ [] else [])) (map-id (range_with_len 0 n))

pub pushed : (p : ℕ → Bool) (n : ℕ) (xs ys : List ℕ) → xs ≡ numbers_where p n → p n ≡ true → ys ≡ xs ++ n ∷ [] → ys ≡ numbers_where p (n + 1)
pushed p n xs ys e t h =
    h ∙ ap (λ (zs : List ℕ). zs ++ n ∷ []) e ∙ ap (λ (b : Bool). numbers_where p n ++ (if b then n ∷ [] else [])) (sym t) ∙ sym (numbers_more p n)

pub passed : (p : ℕ → Bool) (n : ℕ) (xs ys : List ℕ) → xs ≡ numbers_where p n → p n ≡ false → ys ≡ xs → ys ≡ numbers_where p (n + 1)
passed p n xs ys e t h =
    h ∙ e ∙ sym (append-nil (numbers_where p n)) ∙ ap (λ (b : Bool). numbers_where p n ++ (if b then n ∷ [] else [])) (sym t) ∙ sym (numbers_more p n)
