-- An answer that fits leads a resize on.
use Rattle.std.proofs.Common.{◌≡◌, ◌≢◌, ℕ, ◌+◌, ◌-◌, ◌<◌, ◌≤◌, true, false, List, [], ◌∷◌, ◌++◌, length, map, Option, refl, ap, sym, subst, ◌∙◌, append_assoc, append-nil, arith}
use Rattle.std.specs.Prelude.{slice_get}
use Rattle.std.specs.List.{AllByRecursion}
use Rattle.evac_model.specs.declared.names.BlockNo.{BlockNo}
use Rattle.evac_model.specs.declared.device.Response.{Response}
use Rattle.evac_model.specs.declared.device.Response.TheVariants.{Ack, Nack, Busy, Error}
use Rattle.evac_model.proofs.Lists.{all_push}
use Rattle.resize.specs.declared.action.ResizeAction.TheVariants as action
use Rattle.resize.specs.declared.seen.ResizeSeen.{ResizeSeen}
use Rattle.resize.specs.declared.seen.ResizeSeen.TheVariants as seen
use Rattle.resize.specs.declared.stage.Stage.{Stage}
use Rattle.resize.specs.declared.stage.Stage.TheVariants.{Plugging, Joining, Evacuating, Leaving, Zeroing, Unplugging, Returning, Short}
use Rattle.evac_model.specs.declared.tried.Tried.{Tried}
use Rattle.evac_model.specs.declared.tried.TriedResult.{TriedResult}
use Rattle.evac_model.specs.declared.tried.TriedResult.TheVariants as result
use Rattle.resize.specs.Tries.{Exchange, gave, IsRefusal, IsTold, count_after, IsAdded, IsGoneOrKept}
use Rattle.resize.specs.Trying.{Resizing, action_at, answers, stage_for, try_over, after_answer, resize_after, action_of}
use Rattle.resize.specs.UnderWay.{block_of, part_log, IsAdding, IsRemoving, Stands, GoesBy, IsTrueAt, IsTrue}
use Rattle.resize.proofs.Tries.{first_of, next_behind, blocks_more, told_more, plugged_more, none_more}
use Rattle.resize.proofs.Next.{part_none, stands_next}

abbrev try_of : BlockNo → TriedResult → Tried
try_of b r = record { block = b; result = r }

-- the next block stays the next one, wherever the resize stands
adding : (st : Resizing) (stage : Stage) (b : BlockNo) → IsAdding st b → IsAdding (record st { stage = stage }) b
adding st stage b a = record { side = a.side; rest = a.rest; next = a.next; added = a.added }

removing : (st : Resizing) (stage : Stage) (b : BlockNo) → IsRemoving st b → IsRemoving (record st { stage = stage }) b
removing st stage b a = record { side = a.side; rest = a.rest; next = a.next; reasons = a.reasons }

-- what came of the next block
record IsOver (st : Resizing) (b : BlockNo) (r : TriedResult) (count : ℕ) (e : Exchange) : Type 0 where
  rest : List ℕ
  next : st.blocks ≡ map block_of st.tried ++ b.0 ∷ rest
  apart : st.plugged ≢ st.goal
  counted : count ≡ count_after st.plugged r
  told : IsTold b r (part_log st.stage ++ e ∷ [])
  added : count < st.goal → AllByRecursion (λ t. IsAdded t.result) (st.tried ++ try_of b r ∷ [])
  kept : st.goal < count → AllByRecursion (λ t. IsGoneOrKept st.sizes t.block t.result) (st.tried ++ try_of b r ∷ [])

module _ (st : Resizing) (plugged : List ℕ) (log : List Exchange) (g : GoesBy st plugged log) where
  -- the resize stands elsewhere, with one exchange more of the block under way
  moved : (stage : Stage) (e : Exchange) → part_log stage ≡ part_log st.stage ++ e ∷ [] → Stands (record st { stage = stage }) plugged stage → GoesBy (record st { stage = stage }) plugged (log ++ e ∷ [])
  moved stage e part stands = record {
    rising = g.rising;
    few = g.few;
    blocks = g.blocks;
    counted = g.counted;
    done = g.done;
    run = g.run;
    whole = ap (λ (l : List Exchange). l ++ e ∷ []) g.whole ∙ append_assoc g.done (part_log st.stage) (e ∷ []) ∙ ap (λ (l : List Exchange). g.done ++ l) (sym part);
    stands = stands;
  }

  -- the log behind a block that is over
  log_over : (stage : Stage) (e : Exchange) → part_log stage ≡ [] → log ++ e ∷ [] ≡ (g.done ++ (part_log st.stage ++ e ∷ [])) ++ part_log stage
  log_over stage e none =
      ap (λ (l : List Exchange). l ++ e ∷ []) g.whole ∙ append_assoc g.done (part_log st.stage) (e ∷ [])
      ∙ sym (append-nil (g.done ++ (part_log st.stage ++ e ∷ [])))
      ∙ ap (λ (l : List Exchange). (g.done ++ (part_log st.stage ++ e ∷ [])) ++ l) (sym none)

  -- the resize behind it
  abbrev behind : BlockNo → TriedResult → ℕ → Stage → Resizing
  behind b r count stage = record st { tried = st.tried ++ try_of b r ∷ []; plugged = count; stage = stage }

  goes_behind : (b : BlockNo) (r : TriedResult) (count : ℕ) (e : Exchange) (stage : Stage) → (rest : List ℕ) → st.blocks ≡ map block_of st.tried ++ b.0 ∷ rest → st.plugged ≢ st.goal → count ≡ count_after st.plugged r → IsTold b r (part_log st.stage ++ e ∷ []) → part_log stage ≡ [] → Stands (behind b r count stage) plugged stage → GoesBy (behind b r count stage) plugged (log ++ e ∷ [])
  goes_behind b r count e stage rest next apart counted told none stands = record {
    rising = g.rising;
    few = g.few;
    blocks = g.blocks;
    counted = counted ∙ ap (λ (n : ℕ). count_after n r) g.counted ∙ sym (plugged_more (length plugged) st.tried (try_of b r));
    done = g.done ++ (part_log st.stage ++ e ∷ []);
    run = record {
      rest = rest;
      order = sym g.blocks ∙ next ∙ blocks_more st.tried (try_of b r) rest;
      none_at_goal = none_more st.goal (length plugged) st.tried (try_of b r) g.run.none_at_goal (λ same. apart (g.counted ∙ same));
      told = told_more st.tried (try_of b r) g.done (part_log st.stage ++ e ∷ []) g.run.told told;
    };
    whole = log_over stage e none;
    stands = stands;
  }

  over_at : (b : BlockNo) (r : TriedResult) (count : ℕ) (e : Exchange) → (h : IsOver st b r count e) → GoesBy (behind b r count (stage_for st.goal count (first_of h.rest))) plugged (log ++ e ∷ [])
  over_at b r count e h =
      let stage = stage_for st.goal count (first_of h.rest) in
      goes_behind b r count e stage h.rest h.next h.apart h.counted h.told (part_none st.goal count (first_of h.rest))
      (stands_next (behind b r count stage) plugged h.rest (record {
        rising = g.rising;
        few = g.few;
        blocks = g.blocks;
        order = h.next ∙ blocks_more st.tried (try_of b r) h.rest;
        counted = h.counted ∙ ap (λ (n : ℕ). count_after n r) g.counted ∙ sym (plugged_more (length plugged) st.tried (try_of b r));
        added = h.added;
        kept = h.kept;
      }))

  over : (b : BlockNo) (r : TriedResult) (count : ℕ) (e : Exchange) → IsOver st b r count e → GoesBy (try_over st b r count) plugged (log ++ e ∷ [])
  over b r count e h =
      let next : slice_get st.blocks (length (st.tried ++ try_of b r ∷ [])) ≡ first_of h.rest =
      ap (λ (bs : List ℕ). slice_get bs (length (st.tried ++ try_of b r ∷ []))) (h.next ∙ blocks_more st.tried (try_of b r) h.rest)
      ∙ next_behind (st.tried ++ try_of b r ∷ []) h.rest in
      subst (λ (o : Option ℕ). GoesBy (behind b r count (stage_for st.goal count o)) plugged (log ++ e ∷ [])) (sym next) (over_at b r count e h)

  -- ---- a block that is plugged

  refused_plug : (b : BlockNo) (response : Response) (e : Exchange) → IsAdding st b → IsRefusal response → st.plugged ≡ count_after st.plugged (result.Plugged response) → IsTold b (result.Plugged response) (part_log st.stage ++ e ∷ []) → GoesBy (behind b (result.Plugged response) st.plugged Short) plugged (log ++ e ∷ [])
  refused_plug b response e a refused counted told =
      let side = a.side in
      let apart : st.plugged ≢ st.goal = λ same. omega (arith, same) in
      goes_behind b (result.Plugged response) st.plugged e Short a.rest a.next apart counted told refl
      (apart, λ below. record { before = st.tried; block = b; response = response; last = refl; added = a.added; refused = refused }, λ above. absurd (omega (arith, above)))

  joined : (b : BlockNo) (state : ℕ) (e : Exchange) → IsAdding st b → IsTold b (result.Plugged (Ack state)) (part_log st.stage ++ e ∷ []) → GoesBy (try_over st b (result.Plugged (Ack state)) (st.plugged + 1)) plugged (log ++ e ∷ [])
  joined b state e a told =
      let side = a.side in
      over b (result.Plugged (Ack state)) (st.plugged + 1) e (record {
        rest = a.rest;
        next = a.next;
        apart = λ same. omega (arith, same);
        counted = refl;
        told = told;
        added = λ below. all_push (λ (t : Tried). IsAdded t.result) st.tried a.added (try_of b (result.Plugged (Ack state))) (state, refl);
        kept = λ above. absurd (omega (arith, above));
      })

  -- ---- a block that is unplugged

  removed : (b : BlockNo) (r : TriedResult) (count : ℕ) (e : Exchange) → IsRemoving st b → count ≡ count_after st.plugged r → st.goal ≤ count → IsGoneOrKept st.sizes b r → IsTold b r (part_log st.stage ++ e ∷ []) → GoesBy (try_over st b r count) plugged (log ++ e ∷ [])
  removed b r count e a counted enough kept told =
      let side = a.side in
      over b r count e (record {
        rest = a.rest;
        next = a.next;
        apart = λ same. omega (arith, same);
        counted = counted;
        told = told;
        added = λ below. absurd (omega (arith, below));
        kept = λ above. all_push (λ (t : Tried). IsGoneOrKept st.sizes t.block t.result) st.tried a.reasons (try_of b r) kept;
      })

-- ---- all of these

abbrev Leads : Resizing → List ℕ → List Exchange → Stage → ResizeSeen → Type 0
Leads st plugged log stage told = GoesBy (after_answer (record st { stage = stage }) stage told) plugged (log ++ gave (action_at st stage) told ∷ [])

leads : (st : Resizing) (plugged : List ℕ) (log : List Exchange) (stage : Stage) (told : ResizeSeen) → GoesBy (record st { stage = stage }) plugged log → answers stage told ≡ true → IsTrueAt st.sizes stage told → Leads st plugged log stage told
leads st plugged log (Plugging b) (seen.Answered (Ack state)) g h t = moved (record st { stage = Plugging b }) plugged log g (Joining b state) (gave (action.Plug b 1) (seen.Answered (Ack state))) refl (adding (record st { stage = Plugging b }) (Joining b state) b g.stands)
leads st plugged log (Plugging b) (seen.Answered Nack) g h t = refused_plug (record st { stage = Plugging b }) plugged log g b Nack (gave (action.Plug b 1) (seen.Answered Nack)) g.stands tt refl refl
leads st plugged log (Plugging b) (seen.Answered Busy) g h t = refused_plug (record st { stage = Plugging b }) plugged log g b Busy (gave (action.Plug b 1) (seen.Answered Busy)) g.stands tt refl refl
leads st plugged log (Plugging b) (seen.Answered Error) g h t = refused_plug (record st { stage = Plugging b }) plugged log g b Error (gave (action.Plug b 1) (seen.Answered Error)) g.stands tt refl refl
leads st plugged log (Joining b state) seen.Done g h t = joined (record st { stage = Joining b state }) plugged log g b state (gave (action.Online b) seen.Done) g.stands refl
leads st plugged log (Evacuating b) seen.Emptied g h t = moved (record st { stage = Evacuating b }) plugged log g (Leaving b) (gave (action.Evacuate b) seen.Emptied) refl (removing (record st { stage = Evacuating b }) (Leaving b) b g.stands)
leads st plugged log (Evacuating b) (seen.Failed cause) g h t =
    let side = g.stands.side in
    removed (record st { stage = Evacuating b }) plugged log g b (result.Failed cause) st.plugged (gave (action.Evacuate b) (seen.Failed cause)) g.stands refl (omega arith) t refl
leads st plugged log (Leaving b) seen.Done g h t = moved (record st { stage = Leaving b }) plugged log g (Zeroing b) (gave (action.Offline b) seen.Done) refl (removing (record st { stage = Leaving b }) (Zeroing b) b g.stands)
leads st plugged log (Zeroing b) seen.Done g h t = moved (record st { stage = Zeroing b }) plugged log g (Unplugging b) (gave (action.Zero b) seen.Done) refl (removing (record st { stage = Zeroing b }) (Unplugging b) b g.stands)
leads st plugged log (Unplugging b) (seen.Answered (Ack state)) g h t =
    let side = g.stands.side in
    removed (record st { stage = Unplugging b }) plugged log g b result.Unplugged (st.plugged - 1) (gave (action.Unplug b 1) (seen.Answered (Ack state))) g.stands refl (omega arith) tt (state, refl)
leads st plugged log (Unplugging b) (seen.Answered Nack) g h t = moved (record st { stage = Unplugging b }) plugged log g (Returning b Nack) (gave (action.Unplug b 1) (seen.Answered Nack)) refl (tt, (removing (record st { stage = Unplugging b }) (Returning b Nack) b g.stands))
leads st plugged log (Unplugging b) (seen.Answered Busy) g h t = moved (record st { stage = Unplugging b }) plugged log g (Returning b Busy) (gave (action.Unplug b 1) (seen.Answered Busy)) refl (tt, (removing (record st { stage = Unplugging b }) (Returning b Busy) b g.stands))
leads st plugged log (Unplugging b) (seen.Answered Error) g h t = moved (record st { stage = Unplugging b }) plugged log g (Returning b Error) (gave (action.Unplug b 1) (seen.Answered Error)) refl (tt, (removing (record st { stage = Unplugging b }) (Returning b Error) b g.stands))
leads st plugged log (Returning b response) seen.Done g h t =
    let side = g.stands.1.side in
    removed (record st { stage = Returning b response }) plugged log g b (result.Answered response) st.plugged (gave (action.Online b) seen.Done) g.stands.1 refl (omega arith) g.stands.0 (g.stands.0, refl)
leads _ _ _ _ _ g h t = let never : false ≡ true = h in cc

pub goes_on : (st : Resizing) (plugged : List ℕ) (log : List Exchange) (told : ResizeSeen) → GoesBy st plugged log → answers st.stage told ≡ true → IsTrue st told → GoesBy (resize_after st told) plugged (log ++ gave (action_of st) told ∷ [])
goes_on st plugged log told g h t = leads st plugged log st.stage told g h t

-- ---- what doesn't answer

again_at : (st : Resizing) (stage : Stage) (told : ResizeSeen) → answers stage told ≡ false → after_answer st stage told ≡ st
again_at st (Plugging b) (seen.Answered response) h = let never : true ≡ false = h in cc
again_at st (Joining b state) seen.Done h = let never : true ≡ false = h in cc
again_at st (Evacuating b) seen.Emptied h = let never : true ≡ false = h in cc
again_at st (Evacuating b) (seen.Failed cause) h = let never : true ≡ false = h in cc
again_at st (Leaving b) seen.Done h = let never : true ≡ false = h in cc
again_at st (Zeroing b) seen.Done h = let never : true ≡ false = h in cc
again_at st (Unplugging b) (seen.Answered response) h = let never : true ≡ false = h in cc
again_at st (Returning b response) seen.Done h = let never : true ≡ false = h in cc
again_at st _ _ h = refl

-- what doesn't answer the action changes nothing
pub again : (st : Resizing) (told : ResizeSeen) → answers st.stage told ≡ false → resize_after st told ≡ st
again st told h = again_at st st.stage told h

-- ---- what stays

sizes_at : (st : Resizing) (stage : Stage) (told : ResizeSeen) → (after_answer st stage told).sizes ≡ st.sizes
sizes_at st (Plugging b) (seen.Answered (Ack state)) = refl
sizes_at st (Plugging b) (seen.Answered Nack) = refl
sizes_at st (Plugging b) (seen.Answered Busy) = refl
sizes_at st (Plugging b) (seen.Answered Error) = refl
sizes_at st (Unplugging b) (seen.Answered (Ack state)) = refl
sizes_at st (Unplugging b) (seen.Answered Nack) = refl
sizes_at st (Unplugging b) (seen.Answered Busy) = refl
sizes_at st (Unplugging b) (seen.Answered Error) = refl
sizes_at st (Joining b state) seen.Done = refl
sizes_at st (Evacuating b) seen.Emptied = refl
sizes_at st (Evacuating b) (seen.Failed cause) = refl
sizes_at st (Leaving b) seen.Done = refl
sizes_at st (Zeroing b) seen.Done = refl
sizes_at st (Returning b response) seen.Done = refl
sizes_at st _ _ = refl

pub sizes_stay : (st : Resizing) (told : ResizeSeen) → (resize_after st told).sizes ≡ st.sizes
sizes_stay st told = sizes_at st st.stage told

goal_at : (st : Resizing) (stage : Stage) (told : ResizeSeen) → (after_answer st stage told).goal ≡ st.goal
goal_at st (Plugging b) (seen.Answered (Ack state)) = refl
goal_at st (Plugging b) (seen.Answered Nack) = refl
goal_at st (Plugging b) (seen.Answered Busy) = refl
goal_at st (Plugging b) (seen.Answered Error) = refl
goal_at st (Unplugging b) (seen.Answered (Ack state)) = refl
goal_at st (Unplugging b) (seen.Answered Nack) = refl
goal_at st (Unplugging b) (seen.Answered Busy) = refl
goal_at st (Unplugging b) (seen.Answered Error) = refl
goal_at st (Joining b state) seen.Done = refl
goal_at st (Evacuating b) seen.Emptied = refl
goal_at st (Evacuating b) (seen.Failed cause) = refl
goal_at st (Leaving b) seen.Done = refl
goal_at st (Zeroing b) seen.Done = refl
goal_at st (Returning b response) seen.Done = refl
goal_at st _ _ = refl

pub goal_stays : (st : Resizing) (told : ResizeSeen) → (resize_after st told).goal ≡ st.goal
goal_stays st told = goal_at st st.stage told
