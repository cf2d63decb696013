-- One block more: what was asked and told, how many blocks are plugged, and which block is the next.
use Rattle.std.proofs.Common.{◌≡◌, ◌≢◌, ℕ, ◌+◌, ◌*◌, ◌≤◌, List, [], ◌∷◌, ◌++◌, length, map, Option, None, Some, refl, ap, sym, ◌∙◌, append_assoc, append-nil, length-append, arith}
use Rattle.std.specs.Prelude.{slice_get}
use Rattle.std.specs.List.{AllByRecursion}
use Rattle.evac_model.specs.declared.device.Response.{Response}
use Rattle.evac_model.specs.declared.device.Response.TheVariants.{Ack, Nack, Busy, Error}
use Rattle.evac_model.specs.Geometry.{Sizes}
use Rattle.evac_model.specs.declared.tried.Tried.{Tried}
use Rattle.evac_model.specs.declared.tried.TriedResult.{TriedResult}
use Rattle.evac_model.specs.declared.tried.TriedResult.TheVariants as result
use Rattle.resize.specs.Tries.{Exchange, IsTold, AreTold, count_after, plugged_after, NoneAtGoal, IsAdded, IsGoneOrKept}
use Rattle.resize.specs.UnderWay.{block_of}

-- the first of a list
abbrev pub first_of : List ℕ → Option ℕ
first_of [] = None
first_of (b ∷ bs) = Some b

-- the next block stands behind those tried
pub next_behind : (tried : List Tried) (rest : List ℕ) → slice_get (map block_of tried ++ rest) (length tried) ≡ first_of rest
next_behind [] [] = refl
next_behind [] (b ∷ bs) = refl
next_behind (t ∷ tried) rest = next_behind tried rest

pub blocks_more : (tried : List Tried) (t : Tried) (rest : List ℕ) → map block_of tried ++ t.block.0 ∷ rest ≡ map block_of (tried ++ t ∷ []) ++ rest
blocks_more [] t rest = refl
blocks_more (x ∷ tried) t rest = ap (λ (bs : List ℕ). x.block.0 ∷ bs) (blocks_more tried t rest)

pub told_more : (tried : List Tried) (t : Tried) (log part : List Exchange) → AreTold tried log → IsTold t.block t.result part → AreTold (tried ++ t ∷ []) (log ++ part)
told_more [] t log part told one = (part, [], ap (λ (l : List Exchange). l ++ part) told ∙ sym (append-nil part), one, refl)
told_more (x ∷ tried) t log part told one =
    (told.0, told.1 ++ part, ap (λ (l : List Exchange). l ++ part) told.2 ∙ append_assoc told.0 told.1 part, told.3, told_more tried t told.1 part told.4 one)

pub plugged_more : (n : ℕ) (tried : List Tried) (t : Tried) → plugged_after n (tried ++ t ∷ []) ≡ count_after (plugged_after n tried) t.result
plugged_more n [] t = refl
plugged_more n (x ∷ tried) t = plugged_more (count_after n x.result) tried t

pub none_more : (goal n : ℕ) (tried : List Tried) (t : Tried) → NoneAtGoal goal n tried → plugged_after n tried ≢ goal → NoneAtGoal goal n (tried ++ t ∷ [])
none_more goal n [] t none apart = (apart, tt)
none_more goal n (x ∷ tried) t none apart = (none.0, none_more goal (count_after n x.result) tried t none.1 apart)

-- ---- how many blocks are plugged

added_one : (n : ℕ) (r : TriedResult) → IsAdded r → count_after n r ≡ n + 1
added_one n result.Unplugged added = absurd added
added_one n result.Emptied added = absurd added
added_one n (result.Answered response) added = absurd added
added_one n (result.Failed cause) added = absurd added
added_one n (result.Plugged response) added = ap (λ (a : Response). count_after n (result.Plugged a)) added.1

pub added_all : (n : ℕ) (tried : List Tried) → AllByRecursion (λ t. IsAdded t.result) tried → plugged_after n tried ≡ n + length tried
added_all n [] added = omega arith
added_all n (t ∷ tried) added =
    let one = added_one n t.result added.0 in
    let more = added_all (count_after n t.result) tried added.1 in omega arith

kept_one : (s : Sizes) (n : ℕ) (t : Tried) (r : TriedResult) → IsGoneOrKept s t.block r → count_after n r ≤ n
kept_one s n t result.Unplugged kept = omega arith
kept_one s n t result.Emptied kept = absurd kept
kept_one s n t (result.Answered response) kept = omega arith
kept_one s n t (result.Failed cause) kept = omega arith
kept_one s n t (result.Plugged response) kept = absurd kept

pub kept_all : (s : Sizes) (n : ℕ) (tried : List Tried) → AllByRecursion (λ t. IsGoneOrKept s t.block t.result) tried → plugged_after n tried ≤ n
kept_all s n [] kept = omega arith
kept_all s n (t ∷ tried) kept =
    let one = kept_one s n t t.result kept.0 in
    let more = kept_all s (count_after n t.result) tried kept.1 in omega arith

-- ---- how much was asked

plug_length : (t : Tried) (response : Response) (log : List Exchange) → IsTold t.block (result.Plugged response) log → length log ≤ 5
plug_length t (Ack state) log told = let same = ap (λ (l : List Exchange). length l) told in omega arith
plug_length t Nack log told = let same = ap (λ (l : List Exchange). length l) told in omega arith
plug_length t Busy log told = let same = ap (λ (l : List Exchange). length l) told in omega arith
plug_length t Error log told = let same = ap (λ (l : List Exchange). length l) told in omega arith

one_length : (t : Tried) (r : TriedResult) (log : List Exchange) → IsTold t.block r log → length log ≤ 5
one_length t result.Unplugged log told = let same = ap (λ (l : List Exchange). length l) told.1 in omega arith
one_length t result.Emptied log told = absurd told
one_length t (result.Answered response) log told = let same = ap (λ (l : List Exchange). length l) told.1 in omega arith
one_length t (result.Failed cause) log told = let same = ap (λ (l : List Exchange). length l) told in omega arith
one_length t (result.Plugged response) log told = plug_length t response log told

pub told_length : (tried : List Tried) (log : List Exchange) → AreTold tried log → length log ≤ 5 * length tried
told_length [] log told = let same = ap (λ (l : List Exchange). length l) told in omega arith
told_length (t ∷ tried) log told =
    let same = ap (λ (l : List Exchange). length l) told.2 in
    let parts = length-append told.0 told.1 in
    let one = one_length t t.result told.0 told.3 in
    let more = told_length tried told.1 told.4 in omega arith
