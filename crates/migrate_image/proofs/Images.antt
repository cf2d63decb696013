-- What is read is an image, spelled so; and what is spelled so is read.
use Rattle.std.proofs.Common.{◌≡◌, ℕ, zero, suc, ◌+◌, ◌^◌, ◌<◌, ◌≤◌, Bool, true, false, cond, eqb, List, [], ◌∷◌, ◌++◌, length, Result, Ok, Err, refl, sym, ap, subst, ◌∙◌, append_assoc, arith}
use Rattle.std.specs.List.{AllByRecursion, flat_map}
use Rattle.std.proofs.lemmas.Bool.{eqb-true, eq-eqb}
use Rattle.std.proofs.lemmas.List.{append-nil}
use Rattle.evac_model.specs.declared.names.BlockNo.{BlockNo}
use Rattle.evac_model.specs.Numbers.{is_in, is_between}
use Rattle.evac_model.proofs.Ranges.{between_inside, between_bounds}
use Rattle.migrate_image.specs.declared.frame.ImageFrame.{ImageFrame}
use Rattle.migrate_image.specs.declared.fault.ImageFault.{ImageFault}
use Rattle.migrate_image.specs.declared.fault.ImageFault.TheVariants.{BadHeader, BadFrame, Repeated}
use Rattle.migrate_image.specs.Fields.{le32, le64}
use Rattle.migrate_image.specs.Images.{AreRising, block_bytes, frame_bytes, frame_numbers}
use Rattle.migrate_image.specs.Reading.{◌>>=◌, le32_at, le64_at, blocks_at, cells_at, number_at, frame_at, frames_at}
use Rattle.migrate_image.proofs.Fields.{IsBytes, Takes, Takes-then, bind_ok, guarded, ok_is, le32_takes, le32_again, le64_takes, le64_again}

-- numbers of 64 bits
abbrev pub AreWords : List ℕ → Type 0
AreWords cells = AllByRecursion (λ c. c < 2 ^ 64) cells

-- ---- blocks

pub record BlocksRead (bound : ℕ) (read : List BlockNo) (least n : ℕ) (bytes : List ℕ) (x : List BlockNo × List ℕ) : Type 0 where
  pub more : List BlockNo
  pub is : x.0 ≡ read ++ more
  pub takes : Takes bytes (flat_map block_bytes more) x.1
  pub count : length more ≡ n
  pub rising : AreRising least bound more

pub blocks_take : (bound : ℕ) (read : List BlockNo) (least n : ℕ) (bytes : List ℕ) (x : List BlockNo × List ℕ) → IsBytes bytes → blocks_at bound read least n bytes ≡ Ok x → BlocksRead bound read least n bytes x
unfolding blocks_at
blocks_take bound read least zero bytes x fits e =
    subst (λ (y : List BlockNo × List ℕ). BlocksRead bound read least 0 bytes y) (ok_is (read, bytes) x e)
    (record { more = []; is = sym (append-nil read); takes = record { parts = refl; rest_fits = fits }; count = refl; rising = tt })
blocks_take bound read least (suc n) bytes x fits e =
    let b = bind_ok (le32_at bytes) (λ b. cond (is_between least bound b.0) (blocks_at bound (read ++ record { 0 = b.0 } ∷ []) (b.0 + 1) n b.1) (Err BadHeader)) x e in
    let block : BlockNo = record { 0 = b.0.0 } in
    let g = guarded (is_between least bound b.0.0) BadHeader (blocks_at bound (read ++ block ∷ []) (b.0.0 + 1) n b.0.1) x b.2 in
    let inside = between_bounds least bound b.0.0 g.0 in
    let first = le32_takes bytes b.0 fits b.1 in
    let others = blocks_take bound (read ++ block ∷ []) (b.0.0 + 1) n b.0.1 x first.0.rest_fits g.1 in
    record {
      more = block ∷ others.more;
      is = others.is ∙ append_assoc read (block ∷ []) others.more;
      takes = Takes-then bytes (le32 b.0.0) b.0.1 (flat_map block_bytes others.more) x.1 first.0 others.takes;
      count = ap suc others.count;
      rising = (inside.0, inside.1, others.rising);
    }

pub blocks_again : (bound : ℕ) (read : List BlockNo) (least : ℕ) (blocks : List BlockNo) (rest : List ℕ) → bound ≤ 65536 → AreRising least bound blocks
    → blocks_at bound read least (length blocks) (flat_map block_bytes blocks ++ rest) ≡ Ok (read ++ blocks, rest)
unfolding blocks_at
blocks_again bound read least [] rest small rising = ap (λ (r : List BlockNo). Ok (r, rest)) (sym (append-nil read))
blocks_again bound read least (b ∷ blocks) rest small rising =
    let regrouped : flat_map block_bytes (b ∷ blocks) ++ rest ≡ le32 b.0 ++ (flat_map block_bytes blocks ++ rest) = append_assoc (le32 b.0) (flat_map block_bytes blocks) rest in
    let good : is_between least bound b.0 ≡ true = between_inside least bound b.0 rising.0 rising.1 in
    let others = blocks_again bound (read ++ b ∷ []) (b.0 + 1) blocks rest small rising.2 in
    ap (blocks_at bound read least (suc (length blocks))) regrouped
    ∙ rw (le32_again b.0 (flat_map block_bytes blocks ++ rest) (omega (arith, rising.1)), good) (others ∙ ap (λ (r : List BlockNo). Ok (r, rest)) (append_assoc read (b ∷ []) blocks))

-- ---- cells

pub record CellsRead (read : List ℕ) (n : ℕ) (bytes : List ℕ) (x : List ℕ × List ℕ) : Type 0 where
  pub more : List ℕ
  pub is : x.0 ≡ read ++ more
  pub takes : Takes bytes (flat_map le64 more) x.1
  pub count : length more ≡ n
  pub words : AreWords more

pub cells_take : (read : List ℕ) (n : ℕ) (bytes : List ℕ) (x : List ℕ × List ℕ) → IsBytes bytes → cells_at read n bytes ≡ Ok x → CellsRead read n bytes x
unfolding cells_at
cells_take read zero bytes x fits e =
    subst (λ (y : List ℕ × List ℕ). CellsRead read 0 bytes y) (ok_is (read, bytes) x e)
    (record { more = []; is = sym (append-nil read); takes = record { parts = refl; rest_fits = fits }; count = refl; words = tt })
cells_take read (suc n) bytes x fits e =
    let b = bind_ok (le64_at bytes) (λ c. cells_at (read ++ c.0 ∷ []) n c.1) x e in
    let first = le64_takes bytes b.0 fits b.1 in
    let others = cells_take (read ++ b.0.0 ∷ []) n b.0.1 x first.0.rest_fits b.2 in
    record {
      more = b.0.0 ∷ others.more;
      is = others.is ∙ append_assoc read (b.0.0 ∷ []) others.more;
      takes = Takes-then bytes (le64 b.0.0) b.0.1 (flat_map le64 others.more) x.1 first.0 others.takes;
      count = ap suc others.count;
      words = (first.1, others.words);
    }

pub cells_again : (read cells rest : List ℕ) → AreWords cells → cells_at read (length cells) (flat_map le64 cells ++ rest) ≡ Ok (read ++ cells, rest)
unfolding cells_at
cells_again read [] rest words = ap (λ (r : List ℕ). Ok (r, rest)) (sym (append-nil read))
cells_again read (c ∷ cells) rest words =
    let regrouped : flat_map le64 (c ∷ cells) ++ rest ≡ le64 c ++ (flat_map le64 cells ++ rest) = append_assoc (le64 c) (flat_map le64 cells) rest in
    let others = cells_again (read ++ c ∷ []) cells rest words.1 in
    ap (cells_at read (suc (length cells))) regrouped
    ∙ rw (le64_again c (flat_map le64 cells ++ rest) words.0) (others ∙ ap (λ (r : List ℕ). Ok (r, rest)) (append_assoc read (c ∷ []) cells))

-- ---- frames

number_passed : {A : Type 0} (b c : Bool) (r y : A) (d e : ImageFault) → cond b (Ok r) (cond c (Err d) (Err e)) ≡ Ok y → (b ≡ true) × (r ≡ y)
number_passed true c r y d e h = (refl, cc)
number_passed false true r y d e h = absurd cc
number_passed false false r y d e h = absurd cc

number_takes : (before : List ℕ) (due : ℕ) (bytes rest : List ℕ) → IsBytes bytes → number_at before due bytes ≡ Ok rest → Takes bytes (le32 due) rest
unfolding number_at
number_takes before due bytes rest fits e =
    let b = bind_ok (le32_at bytes) (λ n. cond (eqb n.0 due) (Ok n.1) (cond (is_in n.0 before) (Err (Repeated n.0)) (Err (BadFrame n.0)))) rest e in
    let g = number_passed (eqb b.0.0 due) (is_in b.0.0 before) b.0.1 rest (Repeated b.0.0) (BadFrame b.0.0) b.2 in
    let first = le32_takes bytes b.0 fits b.1 in
    subst (λ (r : List ℕ). Takes bytes (le32 due) r) g.1 (subst (λ (n : ℕ). Takes bytes (le32 n) b.0.1) (eqb-true b.0.0 due g.0) first.0)

number_again : (before : List ℕ) (due : ℕ) (rest : List ℕ) → due < 2 ^ 32 → number_at before due (le32 due ++ rest) ≡ Ok rest
unfolding number_at
number_again before due rest lt = rw (le32_again due rest lt, eq-eqb due due refl) refl

record FrameRead (cells due : ℕ) (bytes : List ℕ) (x : ImageFrame × List ℕ) : Type 0 where
  pub number : x.0.frame.0 ≡ due
  pub takes : Takes bytes (frame_bytes x.0) x.1
  pub count : length x.0.cells ≡ cells
  pub words : AreWords x.0.cells

frame_takes : (cells : ℕ) (before : List ℕ) (due : ℕ) (bytes : List ℕ) (x : ImageFrame × List ℕ) → IsBytes bytes → frame_at cells before due bytes ≡ Ok x → FrameRead cells due bytes x
unfolding frame_at
frame_takes cells before due bytes x fits e =
    let a = bind_ok (number_at before due bytes) (λ behind. cells_at [] cells behind >>= λ content. Ok (record { frame = record { 0 = due }; cells = content.0 }, content.1)) x e in
    let b = bind_ok (cells_at [] cells a.0) (λ content. Ok (record { frame = record { 0 = due }; cells = content.0 }, content.1)) x a.2 in
    let first = number_takes before due bytes a.0 fits a.1 in
    let content = cells_take [] cells a.0 b.0 first.rest_fits b.1 in
    let made : ImageFrame × List ℕ = (record { frame = record { 0 = due }; cells = b.0.0 }, b.0.1) in
    let takes : Takes bytes (le32 due ++ flat_map le64 b.0.0) b.0.1 =
    subst (λ (cs : List ℕ). Takes bytes (le32 due ++ flat_map le64 cs) b.0.1) (sym content.is) (Takes-then bytes (le32 due) a.0 (flat_map le64 content.more) b.0.1 first content.takes) in
    subst (λ (y : ImageFrame × List ℕ). FrameRead cells due bytes y) (ok_is made x b.2)
    (record { number = refl; takes = takes; count = ap length content.is ∙ content.count; words = subst AreWords (sym content.is) content.words })

frame_again : (before : List ℕ) (f : ImageFrame) (rest : List ℕ) → f.frame.0 < 2 ^ 32 → AreWords f.cells → frame_at (length f.cells) before f.frame.0 (frame_bytes f ++ rest) ≡ Ok (f, rest)
unfolding frame_at
frame_again before f rest lt words =
    let regrouped : frame_bytes f ++ rest ≡ le32 f.frame.0 ++ (flat_map le64 f.cells ++ rest) = append_assoc (le32 f.frame.0) (flat_map le64 f.cells) rest in
    ap (frame_at (length f.cells) before f.frame.0) regrouped ∙ rw (number_again before f.frame.0 (flat_map le64 f.cells ++ rest) lt, cells_again [] f.cells rest words) refl

pub record FramesRead (cells : ℕ) (read : List ImageFrame) (due : List ℕ) (bytes : List ℕ) (x : List ImageFrame × List ℕ) : Type 0 where
  pub more : List ImageFrame
  pub is : x.0 ≡ read ++ more
  pub takes : Takes bytes (flat_map frame_bytes more) x.1
  pub numbers : frame_numbers more ≡ due
  pub cells_are : AllByRecursion (λ f. length f.cells ≡ cells) more
  pub words : AllByRecursion (λ f. AreWords f.cells) more

pub frames_take : (cells : ℕ) (read : List ImageFrame) (due : List ℕ) (bytes : List ℕ) (x : List ImageFrame × List ℕ) → IsBytes bytes → frames_at cells read due bytes ≡ Ok x → FramesRead cells read due bytes x
unfolding frames_at
frames_take cells read [] bytes x fits e =
    subst (λ (y : List ImageFrame × List ℕ). FramesRead cells read [] bytes y) (ok_is (read, bytes) x e)
    (record { more = []; is = sym (append-nil read); takes = record { parts = refl; rest_fits = fits }; numbers = refl; cells_are = tt; words = tt })
frames_take cells read (n ∷ due) bytes x fits e =
    let b = bind_ok (frame_at cells (frame_numbers read) n bytes) (λ f. frames_at cells (read ++ f.0 ∷ []) due f.1) x e in
    let first = frame_takes cells (frame_numbers read) n bytes b.0 fits b.1 in
    let others = frames_take cells (read ++ b.0.0 ∷ []) due b.0.1 x first.takes.rest_fits b.2 in
    record {
      more = b.0.0 ∷ others.more;
      is = others.is ∙ append_assoc read (b.0.0 ∷ []) others.more;
      takes = Takes-then bytes (frame_bytes b.0.0) b.0.1 (flat_map frame_bytes others.more) x.1 first.takes others.takes;
      numbers = ap (λ (k : ℕ). k ∷ frame_numbers others.more) first.number ∙ ap (λ (ks : List ℕ). n ∷ ks) others.numbers;
      cells_are = (first.count, others.cells_are);
      words = (first.words, others.words);
    }

pub frames_again : (cells : ℕ) (read frames : List ImageFrame) (rest : List ℕ) → AllByRecursion (λ n. n < 2 ^ 32) (frame_numbers frames)
    → AllByRecursion (λ f. length f.cells ≡ cells) frames → AllByRecursion (λ f. AreWords f.cells) frames
    → frames_at cells read (frame_numbers frames) (flat_map frame_bytes frames ++ rest) ≡ Ok (read ++ frames, rest)
unfolding frames_at
frames_again cells read [] rest low sizes words = ap (λ (r : List ImageFrame). Ok (r, rest)) (sym (append-nil read))
frames_again cells read (f ∷ frames) rest low sizes words =
    let regrouped : flat_map frame_bytes (f ∷ frames) ++ rest ≡ frame_bytes f ++ (flat_map frame_bytes frames ++ rest) = append_assoc (frame_bytes f) (flat_map frame_bytes frames) rest in
    let first : frame_at cells (frame_numbers read) f.frame.0 (frame_bytes f ++ (flat_map frame_bytes frames ++ rest)) ≡ Ok (f, flat_map frame_bytes frames ++ rest) =
    subst (λ (k : ℕ). frame_at k (frame_numbers read) f.frame.0 (frame_bytes f ++ (flat_map frame_bytes frames ++ rest)) ≡ Ok (f, flat_map frame_bytes frames ++ rest)) sizes.0
    (frame_again (frame_numbers read) f (flat_map frame_bytes frames ++ rest) low.0 words.0) in
    let others = frames_again cells (read ++ f ∷ []) frames rest low.1 sizes.1 words.1 in
    ap (frames_at cells read (f.frame.0 ∷ frame_numbers frames)) regrouped
    ∙ ap (λ (r : Result (ImageFrame × List ℕ) ImageFault). r >>= λ g. frames_at cells (read ++ g.0 ∷ []) (frame_numbers frames) g.1) first
    ∙ others ∙ ap (λ (r : List ImageFrame). Ok (r, rest)) (append_assoc read (f ∷ []) frames)
