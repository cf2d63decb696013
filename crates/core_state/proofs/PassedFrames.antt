-- Frames that go from hand to hand, one after another.
use Rattle.std.proofs.Common.{◌≡◌, ◌≢◌, ℕ, zero, suc, ◌+◌, ◌<◌, List, [], ◌∷◌, ◌++◌, length, length-set, length-append, append_assoc, take, drop, replicate, get_or, get_or-set_same, get_or-set_other, set, sym, refl, ap, ◌∙◌, arith, Option, None}
use Rattle.std.proofs.lemmas.List.{length-replicate, length-take-le, length-drop, take_more, drop_more, get_or-drop, replicate-append-replicate, append-nil, take-append-drop, set-get_or, set-set}
use Rattle.core_state.specs.declared.hand.HandFrame.{HandFrame}
use Rattle.core_state.specs.declared.view.View.{View}
use Rattle.core_state.specs.Views.{view_of, spent, hand_frame}
use Rattle.core_state.specs.HandOvers.{hand_without, hand_with, views_after_hand_over}

-- ---- lists

module _ {A : Type 0} where
  pub set_swap : (l : List A) (i j : ℕ) (a b : A) → i ≢ j → set (set l i a) j b ≡ set (set l j b) i a
  set_swap [] i j a b ne = refl
  set_swap (x ∷ l) zero zero a b ne = absurd (ne refl)
  set_swap (x ∷ l) zero (suc j) a b ne = refl
  set_swap (x ∷ l) (suc i) zero a b ne = refl
  set_swap (x ∷ l) (suc i) (suc j) a b ne = ap (λ m. x ∷ m) (set_swap l i j a b (λ e. ne (ap suc e)))

  -- two places, written twice
  both_twice : (l : List A) (i j : ℕ) (a b c d : A) → i ≢ j → set (set (set (set l i a) j b) i c) j d ≡ set (set l i c) j d
  both_twice l i j a b c d ne =
      ap (λ m. set (set m i c) j d) (set_swap l i j a b ne)
      ∙ ap (λ m. set m j d) (set-set (set l j b) i a c)
      ∙ ap (λ m. set m j d) (set_swap l j i b c (λ e. ne (sym e)))
      ∙ set-set (set l i c) j b d

  -- the item behind some others
  set_behind : (p q : List A) (x y : A) → set (p ++ y ∷ q) (length p) x ≡ p ++ x ∷ [] ++ q
  set_behind [] q x y = refl
  set_behind (z ∷ p) q x y = ap (λ m. z ∷ m) (set_behind p q x y)

  get_behind : (p q : List A) (y d : A) → get_or (p ++ y ∷ q) (length p) d ≡ y
  get_behind [] q y d = refl
  get_behind (z ∷ p) q y d = get_behind p q y d

  -- the first item that a list still has in its place
  set_next : (p l : List A) (n : ℕ) (x d : A) → length p ≡ n → n < length l → set (p ++ drop n l) n x ≡ p ++ x ∷ [] ++ drop (n + 1) l
  set_next p l n x d long lt =
      ap (λ m. set (p ++ m) n x) (drop_more l n d lt)
      ∙ ap (λ i. set (p ++ get_or l n d ∷ drop (n + 1) l) i x) (sym long)
      ∙ set_behind p (drop (n + 1) l) x (get_or l n d)

  get_next : (p l : List A) (n : ℕ) (d : A) → length p ≡ n → n < length l → get_or (p ++ drop n l) n d ≡ get_or l n d
  get_next p l n d long lt =
      ap (λ m. get_or (p ++ m) n d) (drop_more l n d lt)
      ∙ ap (λ i. get_or (p ++ get_or l n d ∷ drop (n + 1) l) i d) (sym long)
      ∙ get_behind p (drop (n + 1) l) (get_or l n d) d

-- ---- hands

module _ (given had : List (Option HandFrame)) (first k : ℕ) (in_given : first + k < length given) (in_had : first + k < length had) where
  length-without : length (take first given ++ replicate k None) ≡ first + k
  length-without = let a = length-append (take first given) (replicate k None) in let b = length-take-le first given (omega arith) in let c = length-replicate {A = Option HandFrame} k None in omega arith

  length-with : length (take first had ++ take k (drop first given)) ≡ first + k
  length-with = let a = length-append (take first had) (take k (drop first given)) in let b = length-take-le first had (omega arith) in
      let c = length-take-le k (drop first given) (let e = length-drop first given in omega arith) in omega arith

  one_more : first + k + 1 ≡ first + (k + 1)
  one_more = omega arith

  pub without_more : set (hand_without given first k) (first + k) None ≡ hand_without given first (k + 1)
  without_more =
      set_next (take first given ++ replicate k None) given (first + k) None None length-without in_given
      ∙ ap (λ m. m ++ drop (first + k + 1) given) (append_assoc (take first given) (replicate k None) (None ∷ []) ∙ ap (λ m. take first given ++ m) (replicate-append-replicate k 1 None))
      ∙ ap (λ n. take first given ++ replicate (k + 1) None ++ drop n given) one_more

  pub place_left : get_or (hand_without given first k) (first + k) None ≡ get_or given (first + k) None
  place_left = get_next (take first given ++ replicate k None) given (first + k) None length-without in_given

  pub with_more : set (hand_with had given first k) (first + k) (get_or (hand_without given first k) (first + k) None) ≡ hand_with had given first (k + 1)
  with_more =
      ap (λ x. set (hand_with had given first k) (first + k) x) (place_left ∙ sym (get_or-drop first given k None))
      ∙ set_next (take first had ++ take k (drop first given)) had (first + k) (get_or (drop first given) k None) None length-with in_had
      ∙ ap (λ m. m ++ drop (first + k + 1) had) (append_assoc (take first had) (take k (drop first given)) (get_or (drop first given) k None ∷ []) ∙ ap (λ m. take first had ++ m) (sym (take_more (drop first given) k None (let e = length-drop first given in omega arith))))
      ∙ ap (λ n. take first had ++ take (k + 1) (drop first given) ++ drop n had) one_more

pub without_none : (given : List (Option HandFrame)) (first : ℕ) → hand_without given first 0 ≡ given
without_none given first = let e : first + 0 ≡ first = omega arith in ap (λ m. m ++ drop (first + 0) given) (append-nil (take first given)) ∙ ap (λ n. take first given ++ drop n given) e ∙ take-append-drop first given

pub with_none : (given had : List (Option HandFrame)) (first : ℕ) → hand_with had given first 0 ≡ had
with_none given had first = let e : first + 0 ≡ first = omega arith in ap (λ m. m ++ drop (first + 0) had) (append-nil (take first had)) ∙ ap (λ n. take first had ++ drop n had) e ∙ take-append-drop first had

-- ---- views

-- the views once a frame was passed on, where the seats had these views
abbrev pub passed : List View → (from to : ℕ) → (giver receiver : View) → ℕ → List View
passed views from to giver receiver frame =
    set (set views from (record giver { hand = set giver.hand frame None })) to (record receiver { hand = set receiver.hand frame (hand_frame giver frame) })

module _ (views : List View) (from to : ℕ) (apart : from ≢ to) (from_lt : from < length views) (to_lt : to < length views) where
  pub pass_none : (first : ℕ) → views ≡ views_after_hand_over views from to (view_of views from) (view_of views to) first 0
  pass_none first =
      sym (set-get_or views to spent)
      ∙ ap (λ l. set l to (view_of views to)) (sym (set-get_or views from spent))
      ∙ ap (λ h. set (set views from (record (view_of views from) { hand = h })) to (view_of views to)) (sym (without_none (view_of views from).hand first))
      ∙ ap (λ h. set (set views from (record (view_of views from) { hand = hand_without (view_of views from).hand first 0 })) to (record (view_of views to) { hand = h })) (sym (with_none (view_of views from).hand (view_of views to).hand first))

  module _ (giver receiver : View) (first k : ℕ) (in_given : first + k < length giver.hand) (in_had : first + k < length receiver.hand) where
    from_now : view_of (views_after_hand_over views from to giver receiver first k) from ≡ record giver { hand = hand_without giver.hand first k }
    from_now =
        get_or-set_other (set views from (record giver { hand = hand_without giver.hand first k })) to from (record receiver { hand = hand_with receiver.hand giver.hand first k }) spent apart
        ∙ get_or-set_same views from (record giver { hand = hand_without giver.hand first k }) spent from_lt

    to_now : view_of (views_after_hand_over views from to giver receiver first k) to ≡ record receiver { hand = hand_with receiver.hand giver.hand first k }
    to_now = get_or-set_same (set views from (record giver { hand = hand_without giver.hand first k })) to (record receiver { hand = hand_with receiver.hand giver.hand first k }) spent
        (let a = length-set views from (record giver { hand = hand_without giver.hand first k }) in omega arith)

    pass_one : passed (views_after_hand_over views from to giver receiver first k) from to
        (view_of (views_after_hand_over views from to giver receiver first k) from) (view_of (views_after_hand_over views from to giver receiver first k) to) (first + k)
        ≡ views_after_hand_over views from to giver receiver first (k + 1)
    pass_one =
        ap (λ (v : View). passed (views_after_hand_over views from to giver receiver first k) from to v (view_of (views_after_hand_over views from to giver receiver first k) to) (first + k)) from_now
        ∙ ap (λ (v : View). passed (views_after_hand_over views from to giver receiver first k) from to (record giver { hand = hand_without giver.hand first k }) v (first + k)) to_now
        ∙ both_twice views from to (record giver { hand = hand_without giver.hand first k }) (record receiver { hand = hand_with receiver.hand giver.hand first k })
        (record giver { hand = set (hand_without giver.hand first k) (first + k) None })
        (record receiver { hand = set (hand_with receiver.hand giver.hand first k) (first + k) (get_or (hand_without giver.hand first k) (first + k) None) })
        apart
        ∙ ap (λ h. set (set views from (record giver { hand = h })) to (record receiver { hand = set (hand_with receiver.hand giver.hand first k) (first + k) (get_or (hand_without giver.hand first k) (first + k) None) }))
        (without_more giver.hand receiver.hand first k in_given in_had)
        ∙ ap (λ h. set (set views from (record giver { hand = hand_without giver.hand first (k + 1) })) to (record receiver { hand = h }))
        (with_more giver.hand receiver.hand first k in_given in_had)

    pub pass_more : (now after : List View) → now ≡ views_after_hand_over views from to giver receiver first k
        → after ≡ passed now from to (view_of now from) (view_of now to) (first + k) → after ≡ views_after_hand_over views from to giver receiver first (k + 1)
    pass_more now after is e = e ∙ ap (λ (l : List View). passed l from to (view_of l from) (view_of l to) (first + k)) is ∙ pass_one
