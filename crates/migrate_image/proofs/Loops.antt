-- Reading one field after the other, as loops do.
use Rattle.std.proofs.Common.{◌≡◌, ℕ, zero, suc, ◌-◌, ◌+◌, ◌*◌, ◌≤◌, ◌<◌, true, false, cond, List, [], ◌∷◌, ◌++◌, length, get_or, drop, add-one, drop-cons, Result, Ok, Err, refl, sym, ap, subst, ◌∙◌, arith, ◌⊎◌, inl, inr}
use Rattle.std.specs.List.{AllByRecursion, range_with_len, flat_map}
use Rattle.std.proofs.lemmas.Bool.{and_parts, ltb-true}
use Rattle.std.proofs.lemmas.List.{drop_all}
use Rattle.evac_model.specs.declared.names.BlockNo.{BlockNo}
use Rattle.evac_model.specs.Geometry.{Sizes}
use Rattle.evac_model.specs.Numbers.{is_between}
use Rattle.evac_model.proofs.Lists.{all_push}
use Rattle.evac_model.proofs.Ranges.{between_inside, between_below, between_above}
use Rattle.migrate_image.specs.declared.frame.ImageFrame.{ImageFrame}
use Rattle.migrate_image.specs.declared.fault.ImageFault.{ImageFault}
use Rattle.migrate_image.specs.declared.fault.ImageFault.TheVariants as faults
use Rattle.migrate_image.specs.Images.{block_frames, frames_due, frame_numbers}
use Rattle.migrate_image.specs.Reading.{◌>>=◌, Fails, le32_at, le64_at, blocks_at, cells_at, frame_at, frames_at}
use Rattle.migrate_image.proofs.Fields.{bind_ok, guarded, ok_is}

-- where a step fails, so do those behind it
pub fails_on : {A B : Type 0} (e : ImageFault) (r : Result A ImageFault) (f : A → Result B ImageFault) → Fails e r → Fails e (r >>= f)
fails_on faults.OutOfMemory r f h = tt
fails_on faults.Truncated r f h = ap (λ r. r >>= f) h
fails_on faults.BadMark r f h = ap (λ r. r >>= f) h
fails_on faults.BadHeader r f h = ap (λ r. r >>= f) h
fails_on (faults.BadFrame n) r f h = ap (λ r. r >>= f) h
fails_on (faults.Repeated n) r f h = ap (λ r. r >>= f) h
fails_on faults.Trailing r f h = ap (λ r. r >>= f) h

-- cells
pub cells_on : (read : List ℕ) (n i : ℕ) (bytes : List ℕ) (cell : ℕ) (after : List ℕ) (total : Result (List ℕ × List ℕ) ImageFault) → i < n → le64_at bytes ≡ Ok (cell, after)
    → cells_at read (n - i) bytes ≡ total → cells_at (read ++ cell ∷ []) (n - (i + 1)) after ≡ total
unfolding cells_at
cells_on read n i bytes cell after total lt h so_far =
    let k : n - i ≡ suc (n - (i + 1)) = omega arith in
    let one : cells_at read (n - i) bytes ≡ cells_at (read ++ cell ∷ []) (n - (i + 1)) after = rw (k, h) refl in
    sym one ∙ so_far

pub cells_fail : (e : ImageFault) (read : List ℕ) (n i : ℕ) (bytes : List ℕ) (total : Result (List ℕ × List ℕ) ImageFault) → i < n → Fails e (le64_at bytes)
    → cells_at read (n - i) bytes ≡ total → Fails e total
unfolding cells_at
cells_fail e read n i bytes total lt h so_far =
    let k : n - i ≡ suc (n - (i + 1)) = omega arith in
    subst (λ (r : Result (List ℕ × List ℕ) ImageFault). Fails e r) (sym (ap (λ (m : ℕ). cells_at read m bytes) k) ∙ so_far) (fails_on e (le64_at bytes) _ h)

pub cells_end : (read : List ℕ) (n i : ℕ) (bytes : List ℕ) (total : Result (List ℕ × List ℕ) ImageFault) → n ≤ i → cells_at read (n - i) bytes ≡ total → total ≡ Ok (read, bytes)
unfolding cells_at
cells_end read n i bytes total le so_far =
    let k : n - i ≡ 0 = omega arith in
    sym so_far ∙ ap (λ (m : ℕ). cells_at read m bytes) k

-- blocks
pub blocks_on : (bound : ℕ) (read : List BlockNo) (least n i : ℕ) (bytes : List ℕ) (b : ℕ) (after : List ℕ) (total : Result (List BlockNo × List ℕ) ImageFault) → i < n → le32_at bytes ≡ Ok (b, after)
    → least ≤ b → b < bound → blocks_at bound read least (n - i) bytes ≡ total → blocks_at bound (read ++ record { 0 = b } ∷ []) (b + 1) (n - (i + 1)) after ≡ total
unfolding blocks_at
blocks_on bound read least n i bytes b after total lt h low high so_far =
    let k : n - i ≡ suc (n - (i + 1)) = omega arith in
    let good : is_between least bound b ≡ true = between_inside least bound b low high in
    let one : blocks_at bound read least (n - i) bytes ≡ blocks_at bound (read ++ record { 0 = b } ∷ []) (b + 1) (n - (i + 1)) after = rw (k, h, good) refl in
    sym one ∙ so_far

not_between : (least bound b : ℕ) → (b < least) ⊎ (bound ≤ b) → is_between least bound b ≡ false
not_between least bound b (inl l) = between_below least bound b l
not_between least bound b (inr g) = between_above least bound b g

pub blocks_bad : (bound : ℕ) (read : List BlockNo) (least n i : ℕ) (bytes : List ℕ) (b : ℕ) (after : List ℕ) (total : Result (List BlockNo × List ℕ) ImageFault) → i < n → le32_at bytes ≡ Ok (b, after)
    → (b < least) ⊎ (bound ≤ b) → blocks_at bound read least (n - i) bytes ≡ total → total ≡ Err faults.BadHeader
unfolding blocks_at
blocks_bad bound read least n i bytes b after total lt h bad so_far =
    let k : n - i ≡ suc (n - (i + 1)) = omega arith in
    let out : is_between least bound b ≡ false = not_between least bound b bad in
    let one : blocks_at bound read least (n - i) bytes ≡ Err faults.BadHeader = rw (k, h, out) refl in
    sym so_far ∙ one

pub blocks_fail : (e : ImageFault) (bound : ℕ) (read : List BlockNo) (least n i : ℕ) (bytes : List ℕ) (total : Result (List BlockNo × List ℕ) ImageFault) → i < n → Fails e (le32_at bytes)
    → blocks_at bound read least (n - i) bytes ≡ total → Fails e total
unfolding blocks_at
blocks_fail e bound read least n i bytes total lt h so_far =
    let k : n - i ≡ suc (n - (i + 1)) = omega arith in
    subst (λ (r : Result (List BlockNo × List ℕ) ImageFault). Fails e r) (sym (ap (λ (m : ℕ). blocks_at bound read least m bytes) k) ∙ so_far) (fails_on e (le32_at bytes) _ h)

pub blocks_end : (bound : ℕ) (read : List BlockNo) (least n i : ℕ) (bytes : List ℕ) (total : Result (List BlockNo × List ℕ) ImageFault) → n ≤ i → blocks_at bound read least (n - i) bytes ≡ total → total ≡ Ok (read, bytes)
unfolding blocks_at
blocks_end bound read least n i bytes total le so_far =
    let k : n - i ≡ 0 = omega arith in
    sym so_far ∙ ap (λ (m : ℕ). blocks_at bound read least m bytes) k

-- frames
pub frames_on : (cells : ℕ) (read seen : List ImageFrame) (first n i : ℕ) (bytes : List ℕ) (frame : ImageFrame) (after : List ℕ) (total : Result (List ImageFrame × List ℕ) ImageFault) → i < n
    → seen ≡ read → frame_at cells (frame_numbers seen) (first + i) bytes ≡ Ok (frame, after)
    → frames_at cells read (range_with_len (first + i) (n - i)) bytes ≡ total → frames_at cells (read ++ frame ∷ []) (range_with_len (first + (i + 1)) (n - (i + 1))) after ≡ total
unfolding frames_at
frames_on cells read seen first n i bytes frame after total lt same it so_far =
    let h : frame_at cells (frame_numbers read) (first + i) bytes ≡ Ok (frame, after) = subst (λ (s : List ImageFrame). frame_at cells (frame_numbers s) (first + i) bytes ≡ Ok (frame, after)) same it in
    let k : n - i ≡ suc (n - (i + 1)) = omega arith in
    let next : first + i + 1 ≡ first + (i + 1) = omega arith in
    let one : frames_at cells read (range_with_len (first + i) (n - i)) bytes ≡ frames_at cells (read ++ frame ∷ []) (range_with_len (first + (i + 1)) (n - (i + 1))) after = rw (k, h, ← next) refl in
    sym one ∙ so_far

pub frames_fail : (e : ImageFault) (cells : ℕ) (read seen : List ImageFrame) (first n i : ℕ) (bytes : List ℕ) (total : Result (List ImageFrame × List ℕ) ImageFault) → i < n
    → seen ≡ read → Fails e (frame_at cells (frame_numbers seen) (first + i) bytes)
    → frames_at cells read (range_with_len (first + i) (n - i)) bytes ≡ total → Fails e total
unfolding frames_at
frames_fail e cells read seen first n i bytes total lt same it so_far =
    let h : Fails e (frame_at cells (frame_numbers read) (first + i) bytes) = subst (λ (s : List ImageFrame). Fails e (frame_at cells (frame_numbers s) (first + i) bytes)) same it in
    let k : n - i ≡ suc (n - (i + 1)) = omega arith in
    subst (λ (r : Result (List ImageFrame × List ℕ) ImageFault). Fails e r) (sym (ap (λ (m : ℕ). frames_at cells read (range_with_len (first + i) m) bytes) k) ∙ so_far) (fails_on e (frame_at cells (frame_numbers read) (first + i) bytes) _ h)

pub frames_end : (cells : ℕ) (read : List ImageFrame) (first n i : ℕ) (bytes : List ℕ) (total : Result (List ImageFrame × List ℕ) ImageFault) → n ≤ i
    → frames_at cells read (range_with_len (first + i) (n - i)) bytes ≡ total → total ≡ Ok (read, bytes)
unfolding frames_at
frames_end cells read first n i bytes total le so_far =
    let k : n - i ≡ 0 = omega arith in
    sym so_far ∙ ap (λ (m : ℕ). frames_at cells read (range_with_len (first + i) m) bytes) k

-- one run of frames, then others
split_step : (cells : ℕ) (read : List ImageFrame) (xs ys : List ℕ) (r : Result (ImageFrame × List ℕ) ImageFault)
    → ((f : ImageFrame × List ℕ) → frames_at cells (read ++ f.0 ∷ []) (xs ++ ys) f.1 ≡ (frames_at cells (read ++ f.0 ∷ []) xs f.1 >>= λ s. frames_at cells s.0 ys s.1))
    → (r >>= λ f. frames_at cells (read ++ f.0 ∷ []) (xs ++ ys) f.1) ≡ ((r >>= λ f. frames_at cells (read ++ f.0 ∷ []) xs f.1) >>= λ s. frames_at cells s.0 ys s.1)
split_step cells read xs ys (Ok f) h = h f
split_step cells read xs ys (Err e) h = refl

pub frames_split : (cells : ℕ) (read : List ImageFrame) (xs ys : List ℕ) (bytes : List ℕ) → frames_at cells read (xs ++ ys) bytes ≡ (frames_at cells read xs bytes >>= λ r. frames_at cells r.0 ys r.1)
unfolding frames_at
frames_split cells read [] ys bytes = refl
frames_split cells read (x ∷ xs) ys bytes =
    split_step cells read xs ys (frame_at cells (frame_numbers read) x bytes) (λ f. frames_split cells (read ++ f.0 ∷ []) xs ys f.1)

-- where the first run was read, and where it failed
pub run_read : (cells : ℕ) (read : List ImageFrame) (xs ys : List ℕ) (bytes : List ℕ) (more : List ImageFrame) (after : List ℕ) → frames_at cells read xs bytes ≡ Ok (more, after)
    → frames_at cells read (xs ++ ys) bytes ≡ frames_at cells more ys after
run_read cells read xs ys bytes more after h = frames_split cells read xs ys bytes ∙ rw h refl

pub run_failed : (e : ImageFault) (cells : ℕ) (read : List ImageFrame) (xs ys : List ℕ) (bytes : List ℕ) → Fails e (frames_at cells read xs bytes) → Fails e (frames_at cells read (xs ++ ys) bytes)
run_failed e cells read xs ys bytes h =
    subst (λ (r : Result (List ImageFrame × List ℕ) ImageFault). Fails e r) (sym (frames_split cells read xs ys bytes)) (fails_on e (frames_at cells read xs bytes) _ h)

-- the frames of boot blocks, before those of the plugged ones
pub boot_next : (s : Sizes) (cells boot block : ℕ) (start : List ImageFrame) (plugged : List BlockNo) (bytes : List ℕ) (more : List ImageFrame) (after : List ℕ) → cells ≡ s.cells → boot ≡ s.boot → block ≡ s.block → start ≡ []
    → frames_at cells start (range_with_len 0 (boot * block)) bytes ≡ Ok (more, after)
    → frames_at s.cells more (flat_map (block_frames s) plugged) after ≡ frames_at s.cells [] (frames_due s plugged) bytes
boot_next s cells boot block start plugged bytes more after ec eb ek es h =
    let run : frames_at s.cells [] (range_with_len 0 (s.boot * s.block)) bytes ≡ Ok (more, after) = rw (← ec, ← eb, ← ek, ← es) h in
    sym (run_read s.cells [] (range_with_len 0 (s.boot * s.block)) (flat_map (block_frames s) plugged) bytes more after run)

pub boot_stop : (e : ImageFault) (s : Sizes) (cells boot block : ℕ) (start : List ImageFrame) (plugged : List BlockNo) (bytes : List ℕ) → cells ≡ s.cells → boot ≡ s.boot → block ≡ s.block → start ≡ []
    → Fails e (frames_at cells start (range_with_len 0 (boot * block)) bytes) → Fails e (frames_at s.cells [] (frames_due s plugged) bytes)
boot_stop e s cells boot block start plugged bytes ec eb ek es h =
    let run : Fails e (frames_at s.cells [] (range_with_len 0 (s.boot * s.block)) bytes) = rw (← ec, ← eb, ← ek, ← es) h in
    run_failed e s.cells [] (range_with_len 0 (s.boot * s.block)) (flat_map (block_frames s) plugged) bytes run

-- the frames of a plugged block, before those of the blocks behind it
pub blocks_next : (s : Sizes) (cells boot block : ℕ) (read : List ImageFrame) (blocks : List BlockNo) (i : ℕ) (bytes : List ℕ) (d : BlockNo) (more : List ImageFrame) (after : List ℕ) → cells ≡ s.cells → boot ≡ s.boot → block ≡ s.block → i < length blocks
    → frames_at cells read (range_with_len ((boot + (get_or blocks i d).0) * block) block) bytes ≡ Ok (more, after)
    → frames_at s.cells read (flat_map (block_frames s) (drop i blocks)) bytes ≡ frames_at s.cells more (flat_map (block_frames s) (drop (i + 1) blocks)) after
blocks_next s cells boot block read blocks i bytes d more after ec eb ek lt h =
    let cut : drop i blocks ≡ get_or blocks i d ∷ drop (i + 1) blocks = rw add-one (drop-cons blocks i d lt) in
    let run : frames_at s.cells read (block_frames s (get_or blocks i d)) bytes ≡ Ok (more, after) = rw (← ec, ← eb, ← ek) h in
    ap (λ (bs : List BlockNo). frames_at s.cells read (flat_map (block_frames s) bs) bytes) cut ∙ run_read s.cells read (block_frames s (get_or blocks i d)) (flat_map (block_frames s) (drop (i + 1) blocks)) bytes more after run

pub blocks_stop : (e : ImageFault) (s : Sizes) (cells boot block : ℕ) (read : List ImageFrame) (blocks : List BlockNo) (i : ℕ) (bytes : List ℕ) (d : BlockNo) → cells ≡ s.cells → boot ≡ s.boot → block ≡ s.block → i < length blocks
    → Fails e (frames_at cells read (range_with_len ((boot + (get_or blocks i d).0) * block) block) bytes) → Fails e (frames_at s.cells read (flat_map (block_frames s) (drop i blocks)) bytes)
blocks_stop e s cells boot block read blocks i bytes d ec eb ek lt h =
    let cut : drop i blocks ≡ get_or blocks i d ∷ drop (i + 1) blocks = rw add-one (drop-cons blocks i d lt) in
    let run : Fails e (frames_at s.cells read (block_frames s (get_or blocks i d)) bytes) = rw (← ec, ← eb, ← ek) h in
    subst (λ (bs : List BlockNo). Fails e (frames_at s.cells read (flat_map (block_frames s) bs) bytes)) (sym cut) (run_failed e s.cells read (block_frames s (get_or blocks i d)) (flat_map (block_frames s) (drop (i + 1) blocks)) bytes run)

pub blocks_done : (s : Sizes) (read : List ImageFrame) (blocks : List BlockNo) (i : ℕ) (bytes : List ℕ) → length blocks ≤ i → frames_at s.cells read (flat_map (block_frames s) (drop i blocks)) bytes ≡ Ok (read, bytes)
unfolding frames_at
blocks_done s read blocks i bytes le = ap (λ (bs : List BlockNo). frames_at s.cells read (flat_map (block_frames s) bs) bytes) (drop_all i blocks le)

-- the blocks that are read are below the bound
pub blocks_below : (bound : ℕ) (read : List BlockNo) (least n : ℕ) (bytes : List ℕ) (x : List BlockNo × List ℕ) → AllByRecursion (λ b. b.0 < bound) read → blocks_at bound read least n bytes ≡ Ok x → AllByRecursion (λ b. b.0 < bound) x.0
unfolding blocks_at
blocks_below bound read least zero bytes x all e = subst (λ (y : List BlockNo × List ℕ). AllByRecursion (λ b. b.0 < bound) y.0) (ok_is (read, bytes) x e) all
blocks_below bound read least (suc n) bytes x all e =
    let b = bind_ok (le32_at bytes) (λ b. cond (is_between least bound b.0) (blocks_at bound (read ++ record { 0 = b.0 } ∷ []) (b.0 + 1) n b.1) (Err faults.BadHeader)) x e in
    let block : BlockNo = record { 0 = b.0.0 } in
    let g = guarded (is_between least bound b.0.0) faults.BadHeader (blocks_at bound (read ++ block ∷ []) (b.0.0 + 1) n b.0.1) x b.2 in
    let high : b.0.0 < bound = ltb-true _ _ (and_parts _ _ g.0).1 in
    blocks_below bound (read ++ block ∷ []) (b.0.0 + 1) n b.0.1 x (all_push (λ b. b.0 < bound) read all block high) g.1

pub plugged_below : (bound n most : ℕ) (bytes : List ℕ) (x : List BlockNo × List ℕ) (seen : List BlockNo) → bound ≡ most → seen ≡ x.0 → blocks_at bound [] 0 n bytes ≡ Ok x → AllByRecursion (λ b. b.0 < most) seen
plugged_below bound n most bytes x seen em es h =
    let below : AllByRecursion (λ b. b.0 < bound) x.0 = blocks_below bound [] 0 n bytes x tt h in
    subst (λ (xs : List BlockNo). AllByRecursion (λ b. b.0 < most) xs) (sym es) (subst (λ (m : ℕ). AllByRecursion (λ b. b.0 < m) x.0) em below)
