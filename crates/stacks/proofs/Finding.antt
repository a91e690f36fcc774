-- What the tops of three stacks say of the partner of g among the first n places. Assumes nothing.
use mathlib.Core.Path.{◌≡◌}
use mathlib.Core.List.{List}
use Prim.Native.Nat.{ℕ, suc, ◌+◌, ◌-◌, ◌/◌, ◌%◌, ◌≤◌, ◌<◌}
use native.Mathlib.Omega.{arith}
use lib.ListN.{length, get_or}
use Rattle.std.specs.Prelude.{Some, None}
use Rattle.stacks.specs.Stacks.{Top, Pulled, Stacks, by_site, by_target, by_control, Stacked}
use Rattle.stacks.specs.Found.{Found}
use Rattle.stacks.proofs.Meeting.{Meets, meets_at, meets_nowhere}
use Rattle.stacks.proofs.Stacking.{top_pulled, stacks_pulled}

module _ (l : List ℕ) (n g : ℕ) where
  -- no gate of its site
  nowhere_site : Top by_site l n (g / 4) 0 → (j : ℕ) → Meets l n g j → ⊥
  nowhere_site w j m = omega (arith, w.bound j m.inside m.there m.site)

  module _ (s : ℕ) (ws : Top by_site l n (g / 4) s) where
    -- a later gate whose target is its control
    nowhere_target : (t : ℕ) → Top by_target l n (g / 4 % 33) t → ((q : ℕ) → t ≡ suc q → 1 ≤ get_or l q 0 % 4) → s < t → (j : ℕ) → Meets l n g j → ⊥
    nowhere_target t w a h j m =
        let z : t ≡ suc (t - 1) = omega arith in
        (m.free (t - 1) (omega (arith, ws.bound j m.inside m.there m.site)) (omega (arith, w.inside)) (a (t - 1) z)).back (w.key (t - 1) z)

    -- a later gate whose control is its target
    nowhere_control : (t : ℕ) → Top by_control l n (g / 4 / 33 + 1) t → ((q : ℕ) → t ≡ suc q → 1 ≤ get_or l q 0 % 4) → s < t → (j : ℕ) → Meets l n g j → ⊥
    nowhere_control t w a h j m =
        let z : t ≡ suc (t - 1) = omega arith in
        let k : get_or l (t - 1) 0 / 4 % 33 ≡ g / 4 / 33 + 1 = w.key (t - 1) z in
        (m.free (t - 1) (omega (arith, ws.bound j m.inside m.there m.site)) (omega (arith, w.inside)) (a (t - 1) z)).there (omega arith)

    -- neither: the last gate of its site is the partner
    meets_top : (j : ℕ) → s ≡ suc j → ((q : ℕ) → s ≡ suc q → 1 ≤ get_or l q 0 % 4) → (t c : ℕ) → Top by_target l n (g / 4 % 33) t → Top by_control l n (g / 4 / 33 + 1) c → t ≤ s → c ≤ s → Meets l n g j
    meets_top j e a t c wt wc ht hc = record {
      inside = omega (arith, ws.inside);
      there = a j e;
      site = ws.key j e;
      free =
          λ i b f h.
          record {
            there = λ x. omega (arith, wc.bound i f h (omega arith));
            back = λ x. omega (arith, wt.bound i f h x);
          };
    }

-- ---- what the code answers

module _ (l : List ℕ) (n g : ℕ) (h : n ≤ length l) (few : n ≤ 4096) (code : g < 4224) (ss ts cs bs bt bc : List ℕ) (w : Stacked l n ss ts cs bs bt bc) where
  module _ (s : ℕ) (ss' bs' : List ℕ) (ws : Pulled l bs (g / 4) ss s ss') (es : bs' ≡ bs) where
    top_site : Top by_site l n (g / 4) s
    top_site = top_pulled by_site 1056 l n ss bs w.of_sites (g / 4) s ss' (omega arith) ws

    site_stacks : Stacks by_site 1056 l n ss' bs'
    site_stacks = rw es (stacks_pulled by_site 1056 l n ss bs w.of_sites (g / 4) s ss' (omega arith) ws)

    pub answer_site : s ≡ 0 → Found l n g None × Stacked l n ss' ts cs bs' bt bc
    answer_site e = (meets_nowhere g l n h (nowhere_site l n g (rw e at top_site)), record { of_sites = site_stacks; of_targets = w.of_targets; of_controls = w.of_controls })

    module _ (t : ℕ) (ts' bt' : List ℕ) (wt : Pulled l bt (g / 4 % 33) ts t ts') (et : bt' ≡ bt) where
      top_target : Top by_target l n (g / 4 % 33) t
      top_target = top_pulled by_target 33 l n ts bt w.of_targets (g / 4 % 33) t ts' (omega arith) wt

      target_stacks : Stacks by_target 33 l n ts' bt'
      target_stacks = rw et (stacks_pulled by_target 33 l n ts bt w.of_targets (g / 4 % 33) t ts' (omega arith) wt)

      pub answer_target : s < t → Found l n g None × Stacked l n ss' ts' cs bs' bt' bc
      answer_target b = (meets_nowhere g l n h (nowhere_target l n g s top_site t top_target wt.gate.there b), record { of_sites = site_stacks; of_targets = target_stacks; of_controls = w.of_controls })

      module _ (c : ℕ) (cs' bc' : List ℕ) (wc : Pulled l bc (g / 4 / 33 + 1) cs c cs') (ec : bc' ≡ bc) where
        top_control : Top by_control l n (g / 4 / 33 + 1) c
        top_control = top_pulled by_control 33 l n cs bc w.of_controls (g / 4 / 33 + 1) c cs' (omega arith) wc

        all_stacks : Stacked l n ss' ts' cs' bs' bt' bc'
        all_stacks = record {
          of_sites = site_stacks;
          of_targets = target_stacks;
          of_controls = rw ec (stacks_pulled by_control 33 l n cs bc w.of_controls (g / 4 / 33 + 1) c cs' (omega arith) wc);
        }

        pub answer_control : s < c → Found l n g None × Stacked l n ss' ts' cs' bs' bt' bc'
        answer_control b = (meets_nowhere g l n h (nowhere_control l n g s top_site c top_control wc.gate.there b), all_stacks)

        pub answer_found : (s ≡ 0 → ⊥) → t ≤ s → c ≤ s → Found l n g (Some (s - 1)) × Stacked l n ss' ts' cs' bs' bt' bc'
        answer_found d a b =
            let z : s ≡ suc (s - 1) = let y = d in omega arith in
            (meets_at g l n (s - 1) h (meets_top l n g s top_site (s - 1) z ws.gate.there t c top_target top_control a b), all_stacks)
