-- What calls one after another do to told bytes.
use Rattle.std.proofs.Common.{◌≡◌, ℕ, ◌+◌, ◌-◌, ◌≤◌, ◌<◌, List, [], ◌++◌, length, take, drop, refl, sym, append_assoc, arith, length-append, length-take, Option, Some, None}
use Rattle.std.proofs.lemmas.List.{take-append-drop, drop-drop}
use Rattle.std.proofs.Math.Seq.{take-add}
use Rattle.std.proofs.lemmas.Grind.{common_steps}
use Rattle.evac_io.specs.Told.{Gives, Takes, IsAtEnd, IsLongerThan}

-- the bytes from a place on are the next ones, and then those from the place after them
pub drop-take : (n at : ℕ) (bytes into : List ℕ) → take n into ≡ take n (drop at bytes) → drop at bytes ≡ take n into ++ drop (at + n) bytes
drop-take n at bytes into same = rw (same, ← drop-drop n at bytes) (sym (take-append-drop n (drop at bytes)))

-- before any call
pub Gives-none : (told : Option (List ℕ)) → Gives told told []
Gives-none None = refl
Gives-none (Some bytes) = refl

-- one call after another
pub Gives-append : (before mid after : Option (List ℕ)) (xs ys : List ℕ) → Gives before mid xs → Gives mid after ys → Gives before after (xs ++ ys)
Gives-append before mid None xs ys first next = rw (first, next) refl
Gives-append before mid (Some zs) xs ys first next = rw (first, next, append_assoc xs ys zs) refl

-- before any call
pub Takes-none : (told : Option (List ℕ)) → Takes told told []
Takes-none None = refl
Takes-none (Some bytes) = grind (arith, common_steps)

-- one call after another
pub Takes-append : (before mid after : Option (List ℕ)) (xs ys : List ℕ) → Takes before mid xs → Takes mid after ys → Takes before after (xs ++ ys)
Takes-append None mid after xs ys first next = rw (next, first) refl
Takes-append (Some zs) mid after xs ys first next = rw (next, first, append_assoc zs xs ys) refl

-- one write after another, of a text
pub Takes-take : (before mid after : Option (List ℕ)) (text : List ℕ) (at n : ℕ) → Takes before mid (take at text) → Takes mid after (take n (drop at text)) → Takes before after (take (at + n) text)
Takes-take before mid after text at n first next = rw (take-add at n text) (Takes-append before mid after (take at text) (take n (drop at text)) first next)

-- a read of nothing leaves the end where it was
pub IsAtEnd-gives : (before after : Option (List ℕ)) → Gives before after [] → IsAtEnd before → IsAtEnd after
IsAtEnd-gives before None gives end = tt
IsAtEnd-gives None (Some ys) gives end = absurd (cc)
IsAtEnd-gives (Some xs) (Some ys) gives end = cc

-- so many bytes came, so there were more than fewer
pub IsLongerThan-gives : (before after : Option (List ℕ)) (bytes : List ℕ) (limit : ℕ) → Gives before after bytes → limit < length bytes → IsLongerThan before limit
IsLongerThan-gives None after bytes limit gives more = tt
IsLongerThan-gives (Some xs) None bytes limit gives more = absurd (cc)
IsLongerThan-gives (Some xs) (Some ys) bytes limit gives more =
    let same : xs ≡ bytes ++ ys = cc in
    rw same (omega (arith, length-append bytes ys))

-- a read that asks for at most one byte more than are allowed gives at most one more
pub length-append-take : (limit : ℕ) (bytes piece all : List ℕ) (n wanted : ℕ) → length bytes ≤ limit → length piece ≡ length (take wanted all) → wanted ≤ limit - length bytes + 1 → n ≤ length piece → length (bytes ++ take n piece) ≤ limit + 1
length-append-take limit bytes piece all n wanted within cut asked came =
    omega (arith, length-append bytes (take n piece), length-take n piece, length-take wanted all)
