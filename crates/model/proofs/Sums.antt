-- Sums of columns.
use Rattle.std.proofs.Common.{◌≡◌, ℕ, zero, suc, ◌+◌, ◌<◌, List, [], ◌∷◌, ◌++◌, length, take, drop, set, sym, ap, ◌∙◌, subst, ap₂, arith}
use Rattle.std.proofs.lemmas.List.{map-append, length-take, length-drop, get_or-take, get_or-drop, take-append-drop, drop_more, take-set, drop-set-lt}
use Rattle.groups.specs.Group.{Group, Laws, Codes}
use Rattle.groups.specs.Total.{total}
use Rattle.groups.specs.Abelian as ab
use Rattle.groups.proofs.Derived.{abelian, same_number}
use Rattle.groups.proofs.Totals.{sums}
use Rattle.groups.specs.Kept.{codes_none, codes_cons}
use Rattle.model.specs.Words.{at}
use Rattle.model.specs.Deal.{column, block, others}
use Rattle.model.proofs.Listed.{code_at}

abbrev pub Blocks : Group → List (List ℕ) → Type 0
Blocks G bs = (p : ℕ) → p < length bs → Codes G (block bs p)

module _ (G : Group) (laws : Laws G) where
  pub blocks_append : (bs cs : List (List ℕ)) → Blocks G bs → Blocks G cs → Blocks G (bs ++ cs)
  blocks_append [] cs c e p l = e p l
  blocks_append (b ∷ bs) cs c e zero l = c 0 (omega arith)
  blocks_append (b ∷ bs) cs c e (suc p) l = blocks_append bs cs (λ q m. c (suc q) (omega arith)) e p (omega arith)

  pub blocks_one : (b : List ℕ) → Codes G b → Blocks G (b ∷ [])
  blocks_one b c zero l = c
  blocks_one b c (suc p) l = absurd (omega arith)

  pub column_codes : (bs : List (List ℕ)) (k : ℕ) → Blocks G bs → Codes G (column bs k)
  column_codes [] k h = codes_none G
  column_codes (b ∷ bs) k h = codes_cons G (at b k) (column bs k) (code_at G laws b (h 0 (omega arith)) k) (column_codes bs k (λ p l. h (suc p) (omega arith)))

  pub column_code : (bs : List (List ℕ)) (k : ℕ) → Blocks G bs → total G (column bs k) < G.size
  column_code bs k h = (sums laws).total_code (column bs k) (column_codes bs k h)

  -- one more block at the front, and at the end
  pub column_cons : (b : List ℕ) (bs : List (List ℕ)) (k : ℕ) → Codes G b → Blocks G bs
      → total G (column (b ∷ bs) k) ≡ G.add (at b k) (total G (column bs k))
  column_cons b bs k c h = (sums laws).total_cons (at b k) (column bs k) (code_at G laws b c k) (column_codes bs k h)

  pub column_append : (bs cs : List (List ℕ)) (k : ℕ) → Blocks G bs → Blocks G cs
      → total G (column (bs ++ cs) k) ≡ G.add (total G (column bs k)) (total G (column cs k))
  column_append bs cs k h e =
      ap (total G) (map-append (λ b. at b k) bs cs) ∙ (sums laws).total_append (column bs k) (column cs k) (column_codes bs k h) (column_codes cs k e)

  pub column_push : (bs : List (List ℕ)) (b : List ℕ) (k : ℕ) → Blocks G bs → Codes G b
      → total G (column (bs ++ b ∷ []) k) ≡ G.add (at b k) (total G (column bs k))
  column_push bs b k h c =
      let x = code_at G laws b c k in
      let none : Blocks G [] = λ p l. absurd (omega arith) in
      column_append bs (b ∷ []) k h (blocks_one b c)
      ∙ ap (G.add (total G (column bs k))) (column_cons b [] k c none ∙ laws.zero_right (at b k) x)
      ∙ laws.comm (total G (column bs k)) (at b k) (column_code bs k h) x

  before_codes : (h : ℕ) (bs : List (List ℕ)) → Blocks G bs → Blocks G (take h bs)
  before_codes h bs c p l =
      let s : p < h = omega (arith, length-take h bs) in
      subst (λ (b : List ℕ). Codes G b) (sym (get_or-take h bs p [] s)) (c p (omega (arith, length-take h bs)))

  after_codes : (h : ℕ) (bs : List (List ℕ)) → Blocks G bs → Blocks G (drop (h + 1) bs)
  after_codes h bs c p l =
      subst (λ (b : List ℕ). Codes G b) (sym (get_or-drop (h + 1) bs p [])) (c (h + 1 + p) (omega (arith, length-drop (h + 1) bs)))

  pub others_codes : (h : ℕ) (bs : List (List ℕ)) → Blocks G bs → Blocks G (others h bs)
  others_codes h bs c = blocks_append (take h bs) (drop (h + 1) bs) (before_codes h bs c) (after_codes h bs c)

  -- one block and the others
  pub column_split : (h : ℕ) (bs : List (List ℕ)) (k : ℕ) → h < length bs → Blocks G bs
      → total G (column bs k) ≡ G.add (at (block bs h) k) (total G (column (others h bs) k))
  column_split h bs k l c =
      let before = take h bs in
      let after = drop (h + 1) bs in
      let b = block bs h in
      let here : Codes G b = c h l in
      let x = code_at G laws b here k in
      let cb = column_code before k (before_codes h bs c) in
      let ca = column_code after k (after_codes h bs c) in
      let whole : bs ≡ before ++ b ∷ after = sym (take-append-drop h bs) ∙ ap (λ r. before ++ r) (drop_more bs h [] l) in
      ap (λ bs. total G (column bs k)) whole
      ∙ column_append before (b ∷ after) k (before_codes h bs c) (blocks_append (b ∷ []) after (blocks_one b here) (after_codes h bs c))
      ∙ ap (G.add (total G (column before k))) (column_cons b after k here (after_codes h bs c))
      ∙ same_number (ab.left_comm (abelian laws) (total G (column before k), cb) (at b k, x) (total G (column after k), ca))
      ∙ ap (G.add (at b k)) (sym (column_append before after k (before_codes h bs c) (after_codes h bs c)))

-- another block for h leaves the others
pub others_set : (h : ℕ) (bs : List (List ℕ)) (b : List ℕ) → others h (set bs h b) ≡ others h bs
others_set h bs b = ap₂ (λ (x y : List (List ℕ)). x ++ y) (take-set bs h b) (drop-set-lt (h + 1) bs h b (omega arith))
