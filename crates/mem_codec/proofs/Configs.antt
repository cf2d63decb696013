-- What the bytes of a configuration say, and which bytes say it.
use Rattle.std.proofs.Common.{◌≡◌, ℕ, ◌+◌, List, [], ◌++◌, length, take, drop, replicate, refl, sym, ap, ◌∙◌, arith, length-append}
use Rattle.std.proofs.lemmas.List.{append_assoc, append-nil, drop_all, length-take-le, length-drop}
use Rattle.evac_model.specs.declared.device.Config.{Config}
use Rattle.mem_codec.specs.Fields.{le16, le64, le16_at, le64_at, zeros, overwritten}
use Rattle.mem_codec.specs.ConfigBytes.{config_fields, ConfigBytes}
use Rattle.mem_codec.specs.Reading.{config_at}
use Rattle.mem_codec.proofs.Numbers.{IsBytes}
use Rattle.mem_codec.proofs.Places.{drop_cut, drop-le16, drop-le64, le16_at-le16, le64_at-le64, le16_at-lt, le64_at-lt, length-le16, length-le64}

-- all fields, one behind the other, as a front and what is behind it
regroup : (a b p c d e f g : List ℕ) → a ++ b ++ p ++ c ++ d ++ e ++ f ++ g ≡ a ++ (b ++ (p ++ (c ++ (d ++ (e ++ (f ++ g))))))
regroup a b p c d e f g = simp append_assoc

from_b : (a b p c d e f g : List ℕ) → a ++ b ++ p ++ c ++ d ++ e ++ f ++ g ≡ a ++ (b ++ (p ++ c ++ d ++ e ++ f ++ g))
from_b a b p c d e f g = simp append_assoc

from_c : (a b p c d e f g : List ℕ) → a ++ b ++ p ++ c ++ d ++ e ++ f ++ g ≡ (a ++ b ++ p) ++ (c ++ (d ++ e ++ f ++ g))
from_c a b p c d e f g = simp append_assoc

from_d : (a b p c d e f g : List ℕ) → a ++ b ++ p ++ c ++ d ++ e ++ f ++ g ≡ (a ++ b ++ p ++ c) ++ (d ++ (e ++ f ++ g))
from_d a b p c d e f g = simp append_assoc

from_e : (a b p c d e f g : List ℕ) → a ++ b ++ p ++ c ++ d ++ e ++ f ++ g ≡ (a ++ b ++ p ++ c ++ d) ++ (e ++ (f ++ g))
from_e a b p c d e f g = simp append_assoc

from_f : (a b p c d e f g : List ℕ) → a ++ b ++ p ++ c ++ d ++ e ++ f ++ g ≡ (a ++ b ++ p ++ c ++ d ++ e) ++ (f ++ g)
from_f a b p c d e f g = append_assoc (a ++ b ++ p ++ c ++ d ++ e) f g

from_g : (a b p c d e f g : List ℕ) → a ++ b ++ p ++ c ++ d ++ e ++ f ++ g ≡ (a ++ b ++ p ++ c ++ d ++ e ++ f) ++ (g ++ [])
from_g a b p c d e f g = ap (λ (t : List ℕ). (a ++ b ++ p ++ c ++ d ++ e ++ f) ++ t) (sym (append-nil g))

-- how long a front is with one field more
longer : (front field : List ℕ) (m n k : ℕ) → length front ≡ m → length field ≡ n → m + n ≡ k → length (front ++ field) ≡ k
longer front field m n k f g e = length-append front field ∙ (omega (arith, f, g, e))

-- a configuration that is spelled is the one of its fields
pub config_at-spelled : (bytes : List ℕ) (x : Config) → ConfigBytes bytes x → config_at bytes ≡ x
unfolding config_fields
config_at-spelled bytes x s =
    let a = le64 x.block_size in
    let b = le16 x.node_id in
    let p = s.padding in
    let c = le64 x.addr in
    let d = le64 x.region_size in
    let e = le64 x.usable_region_size in
    let f = le64 x.plugged_size in
    let g = le64 x.requested_size in
    let l10 : length (a ++ b) ≡ 10 = longer a b 8 2 10 (length-le64 x.block_size) (length-le16 x.node_id) refl in
    let l16 : length (a ++ b ++ p) ≡ 16 = longer (a ++ b) p 10 6 16 l10 s.padding_is refl in
    let l24 : length (a ++ b ++ p ++ c) ≡ 24 = longer (a ++ b ++ p) c 16 8 24 l16 (length-le64 x.addr) refl in
    let l32 : length (a ++ b ++ p ++ c ++ d) ≡ 32 = longer (a ++ b ++ p ++ c) d 24 8 32 l24 (length-le64 x.region_size) refl in
    let l40 : length (a ++ b ++ p ++ c ++ d ++ e) ≡ 40 = longer (a ++ b ++ p ++ c ++ d) e 32 8 40 l32 (length-le64 x.usable_region_size) refl in
    let l48 : length (a ++ b ++ p ++ c ++ d ++ e ++ f) ≡ 48 = longer (a ++ b ++ p ++ c ++ d ++ e) f 40 8 48 l40 (length-le64 x.plugged_size) refl in
    let e0 : le64_at 0 bytes ≡ x.block_size = ap (le64_at 0) (s.spelled ∙ regroup a b p c d e f g) ∙ le64_at-le64 0 [] x.block_size (b ++ (p ++ (c ++ (d ++ (e ++ (f ++ g)))))) refl s.fits.block_size in
    let e8 : le16_at 8 bytes ≡ x.node_id = ap (le16_at 8) (s.spelled ∙ from_b a b p c d e f g) ∙ le16_at-le16 8 a x.node_id (p ++ c ++ d ++ e ++ f ++ g) (length-le64 x.block_size) s.fits.node_id in
    let e16 : le64_at 16 bytes ≡ x.addr = ap (le64_at 16) (s.spelled ∙ from_c a b p c d e f g) ∙ le64_at-le64 16 (a ++ b ++ p) x.addr (d ++ e ++ f ++ g) l16 s.fits.addr in
    let e24 : le64_at 24 bytes ≡ x.region_size = ap (le64_at 24) (s.spelled ∙ from_d a b p c d e f g) ∙ le64_at-le64 24 (a ++ b ++ p ++ c) x.region_size (e ++ f ++ g) l24 s.fits.region_size in
    let e32 : le64_at 32 bytes ≡ x.usable_region_size = ap (le64_at 32) (s.spelled ∙ from_e a b p c d e f g) ∙ le64_at-le64 32 (a ++ b ++ p ++ c ++ d) x.usable_region_size (f ++ g) l32 s.fits.usable_region_size in
    let e40 : le64_at 40 bytes ≡ x.plugged_size = ap (le64_at 40) (s.spelled ∙ from_f a b p c d e f g) ∙ le64_at-le64 40 (a ++ b ++ p ++ c ++ d ++ e) x.plugged_size g l40 s.fits.plugged_size in
    let e48 : le64_at 48 bytes ≡ x.requested_size = ap (le64_at 48) (s.spelled ∙ from_g a b p c d e f g) ∙ le64_at-le64 48 (a ++ b ++ p ++ c ++ d ++ e ++ f) x.requested_size [] l48 s.fits.requested_size in
    rw (e0, e8, e16, e24, e32, e40, e48) refl

-- bytes of a configuration are 56
pub config_length : (bytes : List ℕ) (x : Config) → ConfigBytes bytes x → length bytes ≡ 56
unfolding config_fields
config_length bytes x s =
    ap length s.spelled ∙ simp (length-append, length-le64, length-le16, s.padding_is) refl

-- any 56 bytes are a configuration
pub config_spelled : (bytes : List ℕ) → length bytes ≡ 56 → IsBytes bytes → ConfigBytes bytes (config_at bytes)
unfolding config_fields
config_spelled bytes l b =
    let a : bytes ≡ le64 (le64_at 0 bytes) ++ drop 8 bytes = drop-le64 0 8 bytes refl (omega (arith, l)) b in
    let n : drop 8 bytes ≡ le16 (le16_at 8 bytes) ++ drop 10 bytes = drop-le16 8 10 bytes refl (omega (arith, l)) b in
    let p : drop 10 bytes ≡ take 6 (drop 10 bytes) ++ drop 16 bytes = drop_cut 6 10 16 bytes refl in
    let c : drop 16 bytes ≡ le64 (le64_at 16 bytes) ++ drop 24 bytes = drop-le64 16 24 bytes refl (omega (arith, l)) b in
    let d : drop 24 bytes ≡ le64 (le64_at 24 bytes) ++ drop 32 bytes = drop-le64 24 32 bytes refl (omega (arith, l)) b in
    let e : drop 32 bytes ≡ le64 (le64_at 32 bytes) ++ drop 40 bytes = drop-le64 32 40 bytes refl (omega (arith, l)) b in
    let f : drop 40 bytes ≡ le64 (le64_at 40 bytes) ++ drop 48 bytes = drop-le64 40 48 bytes refl (omega (arith, l)) b in
    let g : drop 48 bytes ≡ le64 (le64_at 48 bytes) ++ drop 56 bytes = drop-le64 48 56 bytes refl (omega (arith, l)) b in
    let end : drop 48 bytes ≡ le64 (le64_at 48 bytes) =
    g ∙ ap (λ (t : List ℕ). le64 (le64_at 48 bytes) ++ t) (drop_all 56 bytes (omega (arith, l))) ∙ append-nil (le64 (le64_at 48 bytes)) in
    record {
      padding = take 6 (drop 10 bytes);
      padding_is = length-take-le 6 (drop 10 bytes) (omega (arith, length-drop 10 bytes, l));
      fits = record {
        block_size = le64_at-lt 0 bytes b;
        node_id = le16_at-lt 8 bytes b;
        addr = le64_at-lt 16 bytes b;
        region_size = le64_at-lt 24 bytes b;
        usable_region_size = le64_at-lt 32 bytes b;
        plugged_size = le64_at-lt 40 bytes b;
        requested_size = le64_at-lt 48 bytes b;
      };
      spelled = a
          ∙ ap (λ (t : List ℕ). le64 (le64_at 0 bytes) ++ t) (n
          ∙ ap (λ (t : List ℕ). le16 (le16_at 8 bytes) ++ t) (p
          ∙ ap (λ (t : List ℕ). take 6 (drop 10 bytes) ++ t) (c
          ∙ ap (λ (t : List ℕ). le64 (le64_at 16 bytes) ++ t) (d
          ∙ ap (λ (t : List ℕ). le64 (le64_at 24 bytes) ++ t) (e
          ∙ ap (λ (t : List ℕ). le64 (le64_at 32 bytes) ++ t) (f
          ∙ ap (λ (t : List ℕ). le64 (le64_at 40 bytes) ++ t) end))))))
          ∙ sym (regroup (le64 (le64_at 0 bytes)) (le16 (le16_at 8 bytes)) (take 6 (drop 10 bytes)) (le64 (le64_at 16 bytes)) (le64 (le64_at 24 bytes)) (le64 (le64_at 32 bytes)) (le64 (le64_at 40 bytes)) (le64 (le64_at 48 bytes)));
    }

-- bytes spell one configuration
pub one_config : (bytes : List ℕ) (x y : Config) → ConfigBytes bytes x → ConfigBytes bytes y → x ≡ y
one_config bytes x y s t = sym (config_at-spelled bytes x s) ∙ config_at-spelled bytes y t

-- the fields written over zeros
pub config_written : (x : Config) (out : List ℕ) → out ≡ replicate 56 0 → overwritten 48 (le64 x.requested_size) (overwritten 40 (le64 x.plugged_size) (overwritten 32 (le64 x.usable_region_size) (overwritten 24 (le64 x.region_size) (overwritten 16 (le64 x.addr) (overwritten 8 (le16 x.node_id) (overwritten 0 (le64 x.block_size) out)))))) ≡ config_fields x zeros
unfolding config_fields le16 le64
config_written x out e = rw e refl
