-- Which frames are free, kept aside or of withdrawn blocks, flag by flag.
use Rattle.std.proofs.Common.{◌≡◌, ℕ, ◌+◌, ◌-◌, ◌*◌, ◌/◌, ◌<◌, ◌≤◌, Bool, true, false, cond, eqb, leb, ltb, ◌&&◌, List, ◌++◌, length, take, drop, replicate, refl, sym, ap, ◌∙◌, subst, arith, inl, inr, get_or-set_same, get_or-set_other}
use Rattle.std.proofs.lemmas.Bool.{cases_lt, cases_eq, and_parts, and_left, cond-true, cond-false, lt-ltb, le-ltb, le-leb, lt-leb, leb-true, ltb-true, eq-eqb, ne_eqb, false_from_ne_true}
use Rattle.std.proofs.lemmas.List.{get_or_append_left, get_or-append_right, get_or-take, get_or-drop, get_or-replicate, get_or_past, length-append, length-take-le, length-replicate}
use Rattle.std.proofs.Math.ListN.{set}
use Rattle.evac_model.specs.Geometry.{Sizes}
use Rattle.evac_model.specs.Numbers.{is_between}
use Rattle.evac_model.specs.SpaceJournal.{is_frame_of}
use Rattle.evac_model.proofs.Ranges.{between_inside, between_below, between_above}
use Rattle.buddy.specs.Parts.{Part, replaced}
use Rattle.buddy.specs.RunsInside.{flag, is_free, is_put_aside, HasRoomFor}
use Rattle.buddy.proofs.Flags.{length-replaced}
use Rattle.buddy.proofs.Places.{in_block, block_holds}

-- how a number stands to a range
pub record IsBetween (first last k : ℕ) : Type 0 where
  pub from : first ≤ k
  pub below : k < last

pub between_facts : (first last k : ℕ) → is_between first last k ≡ true → IsBetween first last k
between_facts first last k e =
    let both = and_parts (leb first k) (ltb k last) e in record { from = leb-true first k both.0; below = ltb-true k last both.1 }

pub cond_agree : {X : Type 0} (t : Bool) (x y z : X) → (t ≡ true → x ≡ y) → cond t x z ≡ cond t y z
cond_agree true x y z h = h refl
cond_agree false x y z h = refl

-- flags with others in their place
pub flag-replaced : (first m : ℕ) (others flags : List Bool) (k : ℕ) → first + m ≤ length flags → length others ≡ m → flag (replaced first m others flags) k ≡ cond (is_between first (first + m) k) (flag others (k - first)) (flag flags k)
flag-replaced first m others flags k h l =
    let front : length (take first flags) ≡ first = length-take-le first flags (omega arith) in
    let both : length (take first flags ++ others) ≡ first + m = omega (arith, length-append (take first flags) others, front, l) in
    elim (cases_lt k first) [
      | inl below ↦
          get_or_append_left (take first flags ++ others) (drop (first + m) flags) false k (omega (arith, both, below))
          ∙ get_or_append_left (take first flags) others false k (omega (arith, front, below))
          ∙ get_or-take first flags k false below
          ∙ sym (cond-false (is_between first (first + m) k) (flag others (k - first)) (flag flags k) (between_below first (first + m) k below))
      | inr from ↦ elim (cases_lt k (first + m)) [
        | inl inside ↦
            get_or_append_left (take first flags ++ others) (drop (first + m) flags) false k (omega (arith, both, inside))
            ∙ get_or-append_right (take first flags) others first k false front from
            ∙ sym (cond-true (is_between first (first + m) k) (flag others (k - first)) (flag flags k) (between_inside first (first + m) k from inside))
        | inr above ↦
            get_or-append_right (take first flags ++ others) (drop (first + m) flags) (first + m) k false both above
            ∙ get_or-drop (first + m) flags (k - (first + m)) false
            ∙ ap (λ (n : ℕ). flag flags n) (omega (arith, above))
            ∙ sym (cond-false (is_between first (first + m) k) (flag others (k - first)) (flag flags k) (between_above first (first + m) k above))
      ]
    ]

pub flag-replicate : (m : ℕ) (b : Bool) (k : ℕ) → k < m → flag (replicate m b) k ≡ b
flag-replicate m b k h = get_or-replicate m k b false h

pub flag-none : (m k : ℕ) → flag (replicate m false) k ≡ false
flag-none m k =
    elim (cases_lt k m) [
      | inl l ↦ flag-replicate m false k l
      | inr g ↦ get_or_past (replicate m false) k false (omega (arith, length-replicate m false, g))
    ]

-- the flags of a run, as a list of their own
pub flag-run : (first m : ℕ) (flags : List Bool) (k : ℕ) → first ≤ k → k < first + m → flag (take m (drop first flags)) (k - first) ≡ flag flags k
flag-run first m flags k l h =
    get_or-take m (drop first flags) (k - first) false (omega (arith, l, h)) ∙ get_or-drop first flags (k - first) false ∙ ap (λ (n : ℕ). flag flags n) (omega (arith, l))

pub flag-set : (flags : List Bool) (b : ℕ) (x : Bool) (k : ℕ) → b < length flags → flag (set flags b x) k ≡ cond (eqb k b) x (flag flags k)
flag-set flags b x k h =
    elim (cases_eq k b) [
      | inl e ↦ ap (λ (n : ℕ). flag (set flags b x) n) e ∙ get_or-set_same flags b x false h ∙ sym (cond-true (eqb k b) x (flag flags k) (eq-eqb k b e))
      | inr ne ↦ get_or-set_other flags b k x false ne ∙ sym (cond-false (eqb k b) x (flag flags k) (ne_eqb k b ne))
    ]

-- a part that still has room once frames of it are others
pub room_with : (s : Sizes) (n : ℕ) (p : Part) (first m : ℕ) (others : List Bool) → HasRoomFor s n p → first + m ≤ n → length others ≡ m → HasRoomFor s n (record p { free = replaced first m others p.free })
room_with s n p first m others h inside l =
    let within : first + m ≤ length p.free = omega (arith, inside, h.room, h.places) in
    record {
      block = h.block;
      small = h.small;
      places = length-replaced first m others p.free within l ∙ h.places;
      room = h.room;
      never = λ k past. flag-replaced first m others p.free k within l ∙ cond-false (is_between first (first + m) k) (flag others (k - first)) (flag p.free k) (between_above first (first + m) k (omega (arith, past, inside))) ∙ h.never k past;
    }

-- which frames are free once a run's frames are others, in boot blocks and in managed ones
pub free_in_boot : (s : Sizes) (boot managed : List Bool) (k : ℕ) → k < s.boot * s.block → is_free s boot managed k ≡ flag boot k
free_in_boot s boot managed k h = cond-true (ltb k (s.boot * s.block)) (flag boot k) (flag managed (k - s.boot * s.block)) (lt-ltb k (s.boot * s.block) h)

pub free_in_managed : (s : Sizes) (boot managed : List Bool) (k : ℕ) → s.boot * s.block ≤ k → is_free s boot managed k ≡ flag managed (k - s.boot * s.block)
free_in_managed s boot managed k h = cond-false (ltb k (s.boot * s.block)) (flag boot k) (flag managed (k - s.boot * s.block)) (le-ltb k (s.boot * s.block) h)

pub boot_with : (s : Sizes) (boot managed : List Bool) (first m : ℕ) (others : List Bool) (k : ℕ) → first + m ≤ s.boot * s.block → first + m ≤ length boot → length others ≡ m → is_free s (replaced first m others boot) managed k ≡ cond (is_between first (first + m) k) (flag others (k - first)) (is_free s boot managed k)
boot_with s boot managed first m others k inside room l =
    elim (cases_lt k (s.boot * s.block)) [
      | inl low ↦
          free_in_boot s (replaced first m others boot) managed k low ∙ flag-replaced first m others boot k room l
          ∙ ap (λ (b : Bool). cond (is_between first (first + m) k) (flag others (k - first)) b) (sym (free_in_boot s boot managed k low))
      | inr high ↦
          free_in_managed s (replaced first m others boot) managed k high
          ∙ sym (cond-false (is_between first (first + m) k) (flag others (k - first)) (is_free s boot managed k) (between_above first (first + m) k (omega (arith, inside, high))) ∙ free_in_managed s boot managed k high)
    ]

pub managed_with : (s : Sizes) (boot managed : List Bool) (place m : ℕ) (others : List Bool) (k : ℕ) → place + m ≤ length managed → length others ≡ m → is_free s boot (replaced place m others managed) k ≡ cond (is_between (s.boot * s.block + place) (s.boot * s.block + place + m) k) (flag others (k - (s.boot * s.block + place))) (is_free s boot managed k)
managed_with s boot managed place m others k room l =
    let base = s.boot * s.block in
    elim (cases_lt k (s.boot * s.block)) [
      | inl low ↦
          free_in_boot s boot (replaced place m others managed) k low
          ∙ sym (cond-false (is_between (s.boot * s.block + place) (s.boot * s.block + place + m) k) (flag others (k - (s.boot * s.block + place))) (is_free s boot managed k) (between_below (s.boot * s.block + place) (s.boot * s.block + place + m) k (omega (arith, low))) ∙ free_in_boot s boot managed k low)
      | inr high ↦
          free_in_managed s boot (replaced place m others managed) k high
          ∙ flag-replaced place m others managed (k - s.boot * s.block) room l
          ∙ ap (λ (t : Bool). cond t (flag others (k - s.boot * s.block - place)) (flag managed (k - s.boot * s.block))) (shift_between (s.boot * s.block) place m k high)
          ∙ ap (λ (n : ℕ). cond (is_between (s.boot * s.block + place) (s.boot * s.block + place + m) k) (flag others n) (flag managed (k - s.boot * s.block))) (omega arith)
          ∙ ap (λ (b : Bool). cond (is_between (s.boot * s.block + place) (s.boot * s.block + place + m) k) (flag others (k - (s.boot * s.block + place))) b) (sym (free_in_managed s boot managed k high))
    ]
  where
    shift_between : (base place m k : ℕ) → base ≤ k → is_between place (place + m) (k - base) ≡ is_between (base + place) (base + place + m) k
    shift_between base place m k h =
        elim (cases_lt k (base + place)) [
          | inl l ↦ between_below place (place + m) (k - base) (omega (arith, l, h)) ∙ sym (between_below (base + place) (base + place + m) k l)
          | inr f ↦ elim (cases_lt k (base + place + m)) [
            | inl l ↦ between_inside place (place + m) (k - base) (omega (arith, f)) (omega (arith, l, h)) ∙ sym (between_inside (base + place) (base + place + m) k f l)
            | inr g ↦ between_above place (place + m) (k - base) (omega (arith, g)) ∙ sym (between_above (base + place) (base + place + m) k g)
          ]
        ]

-- the frames of a managed block, as a range
pub frames_of_block : (s : Sizes) (b k : ℕ) → is_frame_of s b k ≡ is_between (s.boot * s.block + b * s.block) (s.boot * s.block + b * s.block + s.block) k
frames_of_block s b k = ap (λ (n : ℕ). is_between n (n + s.block) k) (spread s.boot b s.block)
  where
    spread : (x y z : ℕ) → (x + y) * z ≡ x * z + y * z
    spread x y z = omega arith

-- a frame is of a withdrawn block once its block's flag is set or cleared
pub put_aside-set : (s : Sizes) (withdrawn : List Bool) (b : ℕ) (x : Bool) (k : ℕ) → 0 < s.block → b < length withdrawn → is_put_aside s (set withdrawn b x) k ≡ cond (is_frame_of s b k) x (is_put_aside s withdrawn k)
put_aside-set s withdrawn b x k some h =
    elim (cases_lt k (s.boot * s.block)) [
      | inl low ↦
          and_left (leb (s.boot * s.block) k) (flag (set withdrawn b x) ((k - s.boot * s.block) / s.block)) (lt-leb (s.boot * s.block) k low)
          ∙ sym (cond-false (is_frame_of s b k) x (is_put_aside s withdrawn k) (frames_of_block s b k ∙ between_below (s.boot * s.block + b * s.block) (s.boot * s.block + b * s.block + s.block) k (omega (arith, low)))
          ∙ and_left (leb (s.boot * s.block) k) (flag withdrawn ((k - s.boot * s.block) / s.block)) (lt-leb (s.boot * s.block) k low))
      | inr high ↦
          at_managed (set withdrawn b x) high
          ∙ flag-set withdrawn b x ((k - s.boot * s.block) / s.block) h
          ∙ ap (λ (t : Bool). cond t x (flag withdrawn ((k - s.boot * s.block) / s.block))) (same_block high ∙ sym (frames_of_block s b k))
          ∙ ap (λ (y : Bool). cond (is_frame_of s b k) x y) (sym (at_managed withdrawn high))
    ]
  where
    at_managed : (flags : List Bool) → s.boot * s.block ≤ k → is_put_aside s flags k ≡ flag flags ((k - s.boot * s.block) / s.block)
    at_managed flags high = ap (λ (t : Bool). t && flag flags ((k - s.boot * s.block) / s.block)) (le-leb (s.boot * s.block) k high)

    same_block : s.boot * s.block ≤ k → eqb ((k - s.boot * s.block) / s.block) b ≡ is_between (s.boot * s.block + b * s.block) (s.boot * s.block + b * s.block + s.block) k
    same_block high =
        let holds = block_holds s.block (k - s.boot * s.block) some in
        elim (cases_eq ((k - s.boot * s.block) / s.block) b) [
          | inl e ↦
              let low : b * s.block ≤ k - s.boot * s.block = subst (λ (n : ℕ). n * s.block ≤ k - s.boot * s.block) e holds.0 in
              let top : k - s.boot * s.block < b * s.block + s.block = subst (λ (n : ℕ). k - s.boot * s.block < n * s.block + s.block) e holds.1 in
              eq-eqb ((k - s.boot * s.block) / s.block) b e ∙ sym (between_inside (s.boot * s.block + b * s.block) (s.boot * s.block + b * s.block + s.block) k (omega (arith, low, high)) (omega (arith, top, high)))
          | inr ne ↦
              ne_eqb ((k - s.boot * s.block) / s.block) b ne
              ∙ sym (false_from_ne_true (is_between (s.boot * s.block + b * s.block) (s.boot * s.block + b * s.block + s.block) k)
              (λ z. let f = between_facts (s.boot * s.block + b * s.block) (s.boot * s.block + b * s.block + s.block) k z in
              ne (in_block s.block b (k - s.boot * s.block) some (omega (arith, f.from, high)) (omega (arith, f.below, high)))))
        ]
