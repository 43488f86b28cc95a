use Rattle.ledger_board.proofs.Outcomes.{posted_opened}
use Rattle.ledger_board.proofs.board.advance.Goals as goal

pub returns-in-Opened-clause-posted : goal.returns-in-Opened-clause-posted
returns-in-Opened-clause-posted g c =
    posted_opened g.D.Disk.tells (g.D.Disk.bytes c.args.disk.now) (g.D.Disk.left_since c.args.disk.now (g.D.Disk.moment c.args.disk.now)) c.args.state c.in-Opened.ledger c.args.token.now c.args.text.now c.post_open.result.1 c.in-Opened.is c.requires.sound c.post_open.ensures.answers
