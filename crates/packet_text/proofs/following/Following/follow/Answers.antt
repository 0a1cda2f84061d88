use Rattle.std.proofs.Common.{◌≡◌, ◌∙◌, ℕ, List, Option, ap, subst}
use Rattle.std.specs.Prelude.{OnOk}
use Rattle.capture_bodies.specs.Answers.{came_as, part_as}
use Rattle.capture_bodies.specs.Collecting.{Large, large_in}
use Rattle.capture_bodies.specs.Completing.{Completed, completed_in}
use Rattle.capture_records.specs.Ends.{eids_of, own_of, way_in}
use Rattle.capture_records.specs.Heard.{Heard}
use Rattle.capture_records.specs.Hearing.{all_after, heard_of, record_in, seen_among}
use Rattle.capture_records.specs.Showing.{seen_as}
use Rattle.capture_records.specs.declared.ends.Way.{Way}
use Rattle.mctp_framing.specs.Packet.{parsed}
use Rattle.packet_text.proofs.Held.{always, same_held}
use Rattle.packet_text.specs.Shown.{Contents}
use Rattle.packet_text.specs.Styles.{written_by}
use Rattle.packet_text.proofs.following.Following.follow.Goals as goal

pub returns-clause-text : goal.returns-clause-text
unfolding record_in
returns-clause-text c = λ older k.
    let w = c.args.config.now in
    let packet = c.args.packet.now in
    let own = own_of w in
    let eids = eids_of w in
    let done_now : Completed = came_as c.follow-came.result.0 c.as_slice.result.now in
    let done_is : done_now ≡ completed_in own eids older (parsed packet) = ap (λ (l : List ℕ). came_as c.follow-came.result.0 l) c.as_slice.ensures.value ∙ c.follow-came.ensures.came own eids older k.keeps in
    let large_is : part_as c.follow-came.result.1 c.as_slice-2.result.now ≡ large_in own eids older (parsed packet) = ap (λ (l : List ℕ). part_as c.follow-came.result.1 l) c.as_slice-2.ensures.value ∙ c.follow-came.ensures.large own eids older k.keeps in
    let shown_is : seen_as c.in_ok-sealed.sealed c.follow.new.inner ≡ record_in w older packet =
    c.in_ok-sealed.ensures.shown
    ∙ ap (λ (h : List Heard). seen_among h c.way_of-way.result done_now) k.hears
    ∙ ap (λ (o : Option Way). seen_among (heard_of w older) o done_now) c.way_of-way.ensures
    ∙ ap (λ (d : Completed). seen_among (heard_of w older) (way_in w (parsed packet)) d) done_is in
    let seen_is : seen_as c.in_ok-sealed.sealed c.as_slice-inner.result.now ≡ record_in w older packet = ap (λ (l : List ℕ). seen_as c.in_ok-sealed.sealed l) c.as_slice-inner.ensures.value ∙ shown_is in
    let inside_is = ap (λ (l : List ℕ). part_as c.follow-inner_part.result l) c.as_slice-3.ensures.value ∙ c.follow-inner_part.ensures.large w older packet k.collects c.way_of-way.ensures seen_is in
    subst (λ (h : Contents). OnOk c.set_written.result (c.set_written.new.text ≡ written_by c.args.style w c.args.number packet h)) (same_held done_is large_is seen_is inside_is) c.set_written.ensures

pub returns-clause-follows : goal.returns-clause-follows
unfolding record_in
returns-clause-follows c = λ older k.
    let w = c.args.config.now in
    let packet = c.args.packet.now in
    let own = own_of w in
    let eids = eids_of w in
    let way = c.way_of-way.result in
    let done_now : Completed = came_as c.follow-came.result.0 c.as_slice.result.now in
    let large_now : Large = part_as c.follow-came.result.1 c.as_slice-2.result.now in
    let done_is : done_now ≡ completed_in own eids older (parsed packet) = ap (λ (l : List ℕ). came_as c.follow-came.result.0 l) c.as_slice.ensures.value ∙ c.follow-came.ensures.came own eids older k.keeps in
    let large_is : large_now ≡ large_in own eids older (parsed packet) = ap (λ (l : List ℕ). part_as c.follow-came.result.1 l) c.as_slice-2.ensures.value ∙ c.follow-came.ensures.large own eids older k.keeps in
    let shown_is : seen_as c.in_ok-sealed.sealed c.follow.new.inner ≡ record_in w older packet =
    c.in_ok-sealed.ensures.shown
    ∙ ap (λ (h : List Heard). seen_among h way done_now) k.hears
    ∙ ap (λ (o : Option Way). seen_among (heard_of w older) o done_now) c.way_of-way.ensures
    ∙ ap (λ (d : Completed). seen_among (heard_of w older) (way_in w (parsed packet)) d) done_is in
    let seen_is : seen_as c.in_ok-sealed.sealed c.as_slice-inner.result.now ≡ record_in w older packet = ap (λ (l : List ℕ). seen_as c.in_ok-sealed.sealed l) c.as_slice-inner.ensures.value ∙ shown_is in
    always c.set_written.result (record {
      keeps = c.follow-came.ensures.keeps own eids older k.keeps;
      hears =
          c.in_ok-sealed.ensures.after
          ∙ ap (λ (h : List Heard). all_after h way done_now large_now) k.hears
          ∙ ap (λ (o : Option Way). all_after (heard_of w older) o done_now large_now) c.way_of-way.ensures
          ∙ ap (λ (d : Completed). all_after (heard_of w older) (way_in w (parsed packet)) d large_now) done_is
          ∙ ap (λ (l : Large). all_after (heard_of w older) (way_in w (parsed packet)) (completed_in own eids older (parsed packet)) l) large_is;
      collects = c.follow-inner_part.ensures.collects w older packet k.collects c.way_of-way.ensures seen_is;
    })
