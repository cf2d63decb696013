-- Cells in each of which zero is stored.
use Rattle.std.proofs.Common.{◌≡◌, ℕ, ◌<◌, List, length, replicate, slice_index_or, sym, ap, ◌∙◌, subst, Option, None, Some}
use Rattle.std.proofs.lemmas.List.{ext_get_or, length-replicate, get_or-replicate}

pub all_zeros : (l : List (Option ℕ)) (n : ℕ) → length l ≡ n → ((cell : ℕ) → cell < n → slice_index_or l cell None ≡ Some 0) → l ≡ replicate n (Some 0)
all_zeros l n long zero =
    ext_get_or None l (replicate n (Some 0)) (long ∙ sym (length-replicate n (Some 0)))
    (λ i lt. let below : i < n = subst (λ (k : ℕ). i < k) long lt in zero i below ∙ sym (get_or-replicate n i (Some 0) None below))

pub each_zero : (l : List (Option ℕ)) (n : ℕ) → l ≡ replicate n (Some 0) → (cell : ℕ) → cell < n → slice_index_or l cell None ≡ Some 0
each_zero l n is cell lt = ap (λ (x : List (Option ℕ)). slice_index_or x cell None) is ∙ get_or-replicate n cell (Some 0) None lt

pub as_long : (l : List (Option ℕ)) (n : ℕ) → l ≡ replicate n (Some 0) → length l ≡ n
as_long l n is = ap (λ (x : List (Option ℕ)). length x) is ∙ length-replicate n (Some 0)
