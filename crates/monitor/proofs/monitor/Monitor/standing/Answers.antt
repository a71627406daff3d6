use Rattle.monitor.proofs.monitor.Monitor.standing.Goals as goal

pub returns : goal.returns
returns g c h st = c.standing.ensures.tells (g.R.Reading.meaning c.args.self.now.reading) h.codes st.possible st.residual st.count
