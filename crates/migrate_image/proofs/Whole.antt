-- The two laws of images: what is read is an image, and is spelled so; and what is spelled so is read.
use Rattle.std.proofs.Common.{◌≡◌, ℕ, zero, suc, ◌+◌, ◌*◌, ◌^◌, ◌<◌, ◌≤◌, Bool, true, cond, eqb, List, [], ◌∷◌, ◌++◌, length, Result, Ok, Err, refl, sym, ap, subst, ◌∙◌, append_assoc, arith}
use Rattle.std.specs.Prelude.{IfOk}
use Rattle.std.specs.List.{AllByRecursion, flat_map, range_with_len}
use Rattle.std.proofs.Math.Nat.{add-mul, mul-le-mul_right}
use Rattle.std.proofs.lemmas.Bool.{eqb-true, ne_eqb}
use Rattle.std.proofs.lemmas.List.{append-nil, nil_from_length}
use Rattle.evac_model.specs.declared.names.BlockNo.{BlockNo}
use Rattle.evac_model.specs.Geometry.{Sizes, IsWithinLimits, first_frame, frame_count}
use Rattle.evac_model.proofs.Bounds.{power_to_512_most}
use Rattle.migrate_image.specs.declared.frame.ImageFrame.{ImageFrame}
use Rattle.migrate_image.specs.declared.fault.ImageFault.{ImageFault}
use Rattle.migrate_image.specs.declared.fault.ImageFault.TheVariants.{BadHeader, Trailing}
use Rattle.migrate_image.specs.Fields.{le32, mark}
use Rattle.migrate_image.specs.Images.{ImageParts, IsImage, HasWords, AreRising, block_bytes, block_frames, frame_bytes, frame_numbers, frames_due, size_bytes, image_bytes}
use Rattle.migrate_image.specs.Reading.{◌>>=◌, Gives, le32_at, mark_at, sizes_at, is_within, judged, blocks_at, frames_at, image_of}
use Rattle.migrate_image.proofs.Fields.{IsBytes, Takes, Takes-then, bind_ok, guarded, ok_is, le32_takes, le32_again, mark_takes, mark_again}
use Rattle.migrate_image.proofs.Limits.{within_is, is_within-limits}
use Rattle.migrate_image.proofs.Images.{blocks_take, blocks_again, frames_take, frames_again}

-- ---- sizes

record SizesRead (bytes : List ℕ) (x : Sizes × List ℕ) : Type 0 where
  pub takes : Takes bytes (size_bytes x.0) x.1
  pub pages : x.0.pages ≡ 1

sizes_take : (bytes : List ℕ) (x : Sizes × List ℕ) → IsBytes bytes → sizes_at bytes ≡ Ok x → SizesRead bytes x
unfolding sizes_at
sizes_take bytes x fits e =
    let a = bind_ok (le32_at bytes) (λ cells. le32_at cells.1 >>= λ block. le32_at block.1 >>= λ boot. le32_at boot.1 >>= λ managed. le32_at managed.1 >>= λ plugged. Ok (record { cells = cells.0; block = block.0; boot = boot.0; managed = managed.0; plugged = plugged.0; pages = 1 }, plugged.1)) x e in
    let b = bind_ok (le32_at a.0.1) (λ block. le32_at block.1 >>= λ boot. le32_at boot.1 >>= λ managed. le32_at managed.1 >>= λ plugged. Ok (record { cells = a.0.0; block = block.0; boot = boot.0; managed = managed.0; plugged = plugged.0; pages = 1 }, plugged.1)) x a.2 in
    let c = bind_ok (le32_at b.0.1) (λ boot. le32_at boot.1 >>= λ managed. le32_at managed.1 >>= λ plugged. Ok (record { cells = a.0.0; block = b.0.0; boot = boot.0; managed = managed.0; plugged = plugged.0; pages = 1 }, plugged.1)) x b.2 in
    let d = bind_ok (le32_at c.0.1) (λ managed. le32_at managed.1 >>= λ plugged. Ok (record { cells = a.0.0; block = b.0.0; boot = c.0.0; managed = managed.0; plugged = plugged.0; pages = 1 }, plugged.1)) x c.2 in
    let f = bind_ok (le32_at d.0.1) (λ plugged. Ok (record { cells = a.0.0; block = b.0.0; boot = c.0.0; managed = d.0.0; plugged = plugged.0; pages = 1 }, plugged.1)) x d.2 in
    let ta = le32_takes bytes a.0 fits a.1 in
    let tb = le32_takes a.0.1 b.0 ta.0.rest_fits b.1 in
    let tc = le32_takes b.0.1 c.0 tb.0.rest_fits c.1 in
    let td = le32_takes c.0.1 d.0 tc.0.rest_fits d.1 in
    let tf = le32_takes d.0.1 f.0 td.0.rest_fits f.1 in
    let made : Sizes × List ℕ = (record { cells = a.0.0; block = b.0.0; boot = c.0.0; managed = d.0.0; plugged = f.0.0; pages = 1 }, f.0.1) in
    let four = Takes-then c.0.1 (le32 d.0.0) d.0.1 (le32 f.0.0) f.0.1 td.0 tf.0 in
    let three = Takes-then b.0.1 (le32 c.0.0) c.0.1 (le32 d.0.0 ++ le32 f.0.0) f.0.1 tc.0 four in
    let two = Takes-then a.0.1 (le32 b.0.0) b.0.1 (le32 c.0.0 ++ (le32 d.0.0 ++ le32 f.0.0)) f.0.1 tb.0 three in
    let all = Takes-then bytes (le32 a.0.0) a.0.1 (le32 b.0.0 ++ (le32 c.0.0 ++ (le32 d.0.0 ++ le32 f.0.0))) f.0.1 ta.0 two in
    subst (λ (y : Sizes × List ℕ). SizesRead bytes y) {x = made} (ok_is made x f.2) (record { takes = all; pages = refl })

five : (a b c d e rest : List ℕ) → (a ++ (b ++ (c ++ (d ++ e)))) ++ rest ≡ a ++ (b ++ (c ++ (d ++ (e ++ rest))))
five a b c d e rest = simp append_assoc

sizes_again : (s : Sizes) (rest : List ℕ) → IsWithinLimits s → s.pages ≡ 1 → sizes_at (size_bytes s ++ rest) ≡ Ok (s, rest)
unfolding sizes_at
sizes_again s rest w one =
    let cells : s.cells < 2 ^ 32 = omega (arith, power_to_512_most s.cells w.cells) in
    let block : s.block < 2 ^ 32 = omega (arith, power_to_512_most s.block w.block) in
    let boot : s.boot < 2 ^ 32 = omega (arith, w.boot.1) in
    let managed : s.managed < 2 ^ 32 = omega (arith, w.managed.1) in
    let plugged : s.plugged < 2 ^ 32 = omega (arith, w.managed.1, w.plugged) in
    let regrouped = five (le32 s.cells) (le32 s.block) (le32 s.boot) (le32 s.managed) (le32 s.plugged) rest in
    ap sizes_at regrouped
    ∙ rw (
      le32_again s.cells (le32 s.block ++ (le32 s.boot ++ (le32 s.managed ++ (le32 s.plugged ++ rest)))) cells,
      le32_again s.block (le32 s.boot ++ (le32 s.managed ++ (le32 s.plugged ++ rest))) block,
      le32_again s.boot (le32 s.managed ++ (le32 s.plugged ++ rest)) boot,
      le32_again s.managed (le32 s.plugged ++ rest) managed,
      le32_again s.plugged rest plugged,
    )
    (ap (λ (k : ℕ). Ok (record { cells = s.cells; block = s.block; boot = s.boot; managed = s.managed; plugged = s.plugged; pages = k }, rest)) (sym one))

judged_is : (s t : Sizes) → judged s ≡ Ok t → IsWithinLimits s × (s ≡ t)
unfolding judged
judged_is s t e = let g = guarded (is_within s) BadHeader (Ok s) t e in (within_is s g.0, ok_is s t g.1)

judged_again : (s : Sizes) → IsWithinLimits s → judged s ≡ Ok s
unfolding judged
judged_again s w = rw (is_within-limits s w) refl

-- ---- the frames that are due fit their fields

range_below : (bound first n : ℕ) → first + n ≤ bound → AllByRecursion (λ k. k < bound) (range_with_len first n)
range_below bound first zero h = tt
range_below bound first (suc n) h = (omega arith, range_below bound (first + 1) n (omega arith))

both_below : (bound : ℕ) (xs ys : List ℕ) → AllByRecursion (λ k. k < bound) xs → AllByRecursion (λ k. k < bound) ys → AllByRecursion (λ k. k < bound) (xs ++ ys)
both_below bound [] ys p q = q
both_below bound (x ∷ xs) ys p q = (p.0, both_below bound xs ys p.1 q)

blocks_frames_below : (s : Sizes) (least : ℕ) (blocks : List BlockNo) → frame_count s ≤ 65536 → AreRising least s.managed blocks → AllByRecursion (λ k. k < 2 ^ 32) (flat_map (block_frames s) blocks)
blocks_frames_below s least [] small rising = tt
blocks_frames_below s least (b ∷ blocks) small rising =
    let most : (s.boot + b.0 + 1) * s.block ≤ frame_count s = mul-le-mul_right s.block (omega (arith, rising.1)) in
    let end : (s.boot + b.0 + 1) * s.block ≡ (s.boot + b.0) * s.block + 1 * s.block = add-mul (s.boot + b.0) 1 s.block in
    both_below (2 ^ 32) (block_frames s b) (flat_map (block_frames s) blocks) (range_below (2 ^ 32) (first_frame s b.0) s.block (omega (arith, most, end, small)))
    (blocks_frames_below s (b.0 + 1) blocks small rising.2)

due_below : (s : Sizes) (blocks : List BlockNo) → frame_count s ≤ 65536 → AreRising 0 s.managed blocks → AllByRecursion (λ k. k < 2 ^ 32) (frames_due s blocks)
due_below s blocks small rising =
    let most : s.boot * s.block ≤ frame_count s = mul-le-mul_right s.block (omega arith) in
    both_below (2 ^ 32) (range_with_len 0 (s.boot * s.block)) (flat_map (block_frames s) blocks) (range_below (2 ^ 32) 0 (s.boot * s.block) (omega (arith, most, small))) (blocks_frames_below s 0 blocks small rising)

-- ---- images

-- an image with its cells in 64 bits, and its spelling
pub record IsSpelled (bytes : List ℕ) (i : ImageParts) : Type 0 where
  pub image : IsImage i
  pub words : HasWords i
  pub spelled : bytes ≡ image_bytes i

ended : {A : Type 0} (b : Bool) (d : ImageFault) (x y : A) → cond b (Ok x) (Err d) ≡ Ok y → (b ≡ true) × (x ≡ y)
ended b d x y e = let g = guarded b d (Ok x) y e in (g.0, ok_is x y g.1)

pub image_takes : (bytes : List ℕ) (i : ImageParts) → IsBytes bytes → image_of bytes ≡ Ok i → IsSpelled bytes i
unfolding image_of
image_takes bytes i fits e =
    let a = bind_ok (mark_at bytes) (λ behind. sizes_at behind >>= λ header. judged header.0 >>= λ sizes. blocks_at sizes.managed [] 0 sizes.plugged header.1 >>= λ plugged. frames_at sizes.cells [] (frames_due sizes plugged.0) plugged.1 >>= λ frames. cond (eqb (length frames.1) 0) (Ok (record { geometry = sizes; plugged = plugged.0; frames = frames.0 })) (Err Trailing)) i e in
    let b = bind_ok (sizes_at a.0) (λ header. judged header.0 >>= λ sizes. blocks_at sizes.managed [] 0 sizes.plugged header.1 >>= λ plugged. frames_at sizes.cells [] (frames_due sizes plugged.0) plugged.1 >>= λ frames. cond (eqb (length frames.1) 0) (Ok (record { geometry = sizes; plugged = plugged.0; frames = frames.0 })) (Err Trailing)) i a.2 in
    let c = bind_ok (judged b.0.0) (λ sizes. blocks_at sizes.managed [] 0 sizes.plugged b.0.1 >>= λ plugged. frames_at sizes.cells [] (frames_due sizes plugged.0) plugged.1 >>= λ frames. cond (eqb (length frames.1) 0) (Ok (record { geometry = sizes; plugged = plugged.0; frames = frames.0 })) (Err Trailing)) i b.2 in
    let s = c.0 in
    let d = bind_ok (blocks_at s.managed [] 0 s.plugged b.0.1) (λ plugged. frames_at s.cells [] (frames_due s plugged.0) plugged.1 >>= λ frames. cond (eqb (length frames.1) 0) (Ok (record { geometry = s; plugged = plugged.0; frames = frames.0 })) (Err Trailing)) i c.2 in
    let f = bind_ok (frames_at s.cells [] (frames_due s d.0.0) d.0.1) (λ frames. cond (eqb (length frames.1) 0) (Ok (record { geometry = s; plugged = d.0.0; frames = frames.0 })) (Err Trailing)) i d.2 in
    let made : ImageParts = record { geometry = s; plugged = d.0.0; frames = f.0.0 } in
    let g = ended (eqb (length f.0.1) 0) Trailing made i f.2 in
    let front = mark_takes bytes a.0 fits a.1 in
    let header = sizes_take a.0 b.0 front.rest_fits b.1 in
    let good = judged_is b.0.0 s c.1 in
    let sized : Takes a.0 (size_bytes s) b.0.1 = subst (λ (t : Sizes). Takes a.0 (size_bytes t) b.0.1) good.1 header.takes in
    let blocks = blocks_take s.managed [] 0 s.plugged b.0.1 d.0 sized.rest_fits d.1 in
    let frames = frames_take s.cells [] (frames_due s d.0.0) d.0.1 f.0 blocks.takes.rest_fits f.1 in
    let plugged : Takes b.0.1 (flat_map block_bytes d.0.0) d.0.1 = subst (λ (x : List BlockNo). Takes b.0.1 (flat_map block_bytes x) d.0.1) (sym blocks.is) blocks.takes in
    let content : Takes d.0.1 (flat_map frame_bytes f.0.0) f.0.1 = subst (λ (x : List ImageFrame). Takes d.0.1 (flat_map frame_bytes x) f.0.1) (sym frames.is) frames.takes in
    let last = Takes-then b.0.1 (flat_map block_bytes d.0.0) d.0.1 (flat_map frame_bytes f.0.0) f.0.1 plugged content in
    let behind = Takes-then a.0 (size_bytes s) b.0.1 (flat_map block_bytes d.0.0 ++ flat_map frame_bytes f.0.0) f.0.1 sized last in
    let whole = Takes-then bytes mark a.0 (size_bytes s ++ (flat_map block_bytes d.0.0 ++ flat_map frame_bytes f.0.0)) f.0.1 front behind in
    let nothing : f.0.1 ≡ [] = nil_from_length f.0.1 (eqb-true _ _ g.0) in
    subst (λ (j : ImageParts). IsSpelled bytes j) g.1 (record {
      image = record {
        limits = subst IsWithinLimits good.1 good.0;
        pages = subst (λ (t : Sizes). t.pages ≡ 1) good.1 header.pages;
        count = ap length blocks.is ∙ blocks.count;
        plugged = subst (AreRising 0 s.managed) (sym blocks.is) blocks.rising;
        frames = ap frame_numbers frames.is ∙ frames.numbers;
        cells = subst (AllByRecursion (λ f. length f.cells ≡ s.cells)) (sym frames.is) frames.cells_are;
      };
      words = subst (AllByRecursion (λ f. AllByRecursion (λ c. c < 2 ^ 64) f.cells)) (sym frames.is) frames.words;
      spelled = whole.parts ∙ ap (λ (r : List ℕ). image_bytes made ++ r) nothing ∙ append-nil (image_bytes made);
    })

-- an image with bytes behind it is read up to them
read_front : (i : ImageParts) (behind : List ℕ) → IsImage i → HasWords i → image_of (image_bytes i ++ behind) ≡ cond (eqb (length behind) 0) (Ok i) (Err Trailing)
unfolding image_of
read_front i behind h words =
    let s = i.geometry in
    let blocks_text : List ℕ = flat_map block_bytes i.plugged in
    let frames_text : List ℕ = flat_map frame_bytes i.frames in
    let blocks : blocks_at s.managed [] 0 s.plugged (blocks_text ++ (frames_text ++ behind)) ≡ Ok (i.plugged, frames_text ++ behind) =
    ap (λ (n : ℕ). blocks_at s.managed [] 0 n (blocks_text ++ (frames_text ++ behind))) (sym h.count)
    ∙ blocks_again s.managed [] 0 i.plugged (frames_text ++ behind) h.limits.managed.1 h.plugged in
    let low : AllByRecursion (λ n. n < 2 ^ 32) (frame_numbers i.frames) = subst (AllByRecursion (λ n. n < 2 ^ 32)) (sym h.frames) (due_below s i.plugged h.limits.frames h.plugged) in
    let frames : frames_at s.cells [] (frames_due s i.plugged) (frames_text ++ behind) ≡ Ok (i.frames, behind) =
    ap (λ (due : List ℕ). frames_at s.cells [] due (frames_text ++ behind)) (sym h.frames)
    ∙ frames_again s.cells [] i.frames behind low h.cells words in
    let regrouped : image_bytes i ++ behind ≡ mark ++ (size_bytes s ++ (blocks_text ++ (frames_text ++ behind))) = simp append_assoc in
    ap image_of regrouped
    ∙ rw (mark_again (size_bytes s ++ (blocks_text ++ (frames_text ++ behind))), sizes_again s (blocks_text ++ (frames_text ++ behind)) h.limits h.pages, judged_again s h.limits, blocks, frames) refl

pub image_again : (i : ImageParts) → IsImage i → HasWords i → image_of (image_bytes i) ≡ Ok i
image_again i h words = ap image_of (sym (append-nil (image_bytes i))) ∙ read_front i [] h words

pub bytes_behind : (i : ImageParts) (b : ℕ) (more : List ℕ) → IsImage i → HasWords i → image_of (image_bytes i ++ b ∷ more) ≡ Err Trailing
bytes_behind i b more h words = read_front i (b ∷ more) h words ∙ rw (ne_eqb (suc (length more)) 0 (λ e. absurd (omega (arith, e)))) refl

pub same_image : (i j : ImageParts) → IsImage i → HasWords i → IsImage j → HasWords j → image_bytes i ≡ image_bytes j → i ≡ j
same_image i j hi wi hj wj e = ok_is i j (sym (image_again i hi wi) ∙ ap image_of e ∙ image_again j hj wj)

-- the parts that were read, one after the other
pub assembled : (bytes behind : List ℕ) (header : Sizes × List ℕ) (g : Sizes) (m p : ℕ) (plugged : List BlockNo × List ℕ) (seen : List BlockNo) (frames : List ImageFrame × List ℕ) → mark_at bytes ≡ Ok behind → sizes_at behind ≡ Ok header → judged header.0 ≡ Ok g
    → m ≡ g.managed → p ≡ g.plugged → blocks_at m [] 0 p header.1 ≡ Ok plugged → seen ≡ plugged.0 → frames_at g.cells [] (frames_due g seen) plugged.1 ≡ Ok frames → eqb (length frames.1) 0 ≡ true
    → image_of bytes ≡ Ok (record { geometry = g; plugged = plugged.0; frames = frames.0 })
unfolding image_of
assembled bytes behind header g m p plugged seen frames e1 e2 e3 em ep e4 es e5 e6 =
    let blocks : blocks_at g.managed [] 0 g.plugged header.1 ≡ Ok plugged = rw (← em, ← ep) e4 in
    let content : frames_at g.cells [] (frames_due g plugged.0) plugged.1 ≡ Ok frames = rw (← es) e5 in
    rw (e1, e2, e3, blocks, content, e6) refl

pub is_found : (bytes : List ℕ) (r : Result ImageParts ImageFault) → IsBytes bytes → Gives (λ i. i) r (image_of bytes) → IfOk r (λ i. IsImage i × HasWords i × (bytes ≡ image_bytes i))
is_found bytes (Ok i) fits given = let t = image_takes bytes i fits given in (t.image, t.words, t.spelled)
is_found bytes (Err e) fits given = tt
