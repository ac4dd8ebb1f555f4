use Rattle.qs_conn.proofs.limits.Limits.current.Goals as goal

pub returns-in-MaxData-clause-current : goal.returns-in-MaxData-clause-current
returns-in-MaxData-clause-current c = rw c.in-MaxData.is (λ e. c.max_data.ensures.current c.args.recvs.now c.args.outbox.now e)

pub returns-in-MaxStreamData-clause-current : goal.returns-in-MaxStreamData-clause-current
returns-in-MaxStreamData-clause-current c = rw c.in-MaxStreamData.is (λ e. c.max_stream_data.ensures.current c.args.outbox.now e)

pub returns-in-ResetStream-clause-current : goal.returns-in-ResetStream-clause-current
returns-in-ResetStream-clause-current c = rw c.in-ResetStream.is (λ e. c.reset_stream.ensures.current c.args.self.now c.args.recvs.now e)

pub returns-in-StopSending-clause-current : goal.returns-in-StopSending-clause-current
returns-in-StopSending-clause-current c = rw c.in-StopSending.is (λ e. c.stop_sending.ensures.current c.args.self.now c.args.outbox.now e)

pub returns-in-DataBlocked-clause-current : goal.returns-in-DataBlocked-clause-current
returns-in-DataBlocked-clause-current c = rw c.in-DataBlocked.is (λ e. c.data_blocked.ensures.current c.args.recvs.now e)

pub returns-in-StreamDataBlocked-clause-current : goal.returns-in-StreamDataBlocked-clause-current
returns-in-StreamDataBlocked-clause-current c = rw c.in-StreamDataBlocked.is (λ e. c.stream_data_blocked.ensures.current c.args.self.now c.args.recvs.now e)

pub returns-in-StreamsBlocked-clause-current : goal.returns-in-StreamsBlocked-clause-current
returns-in-StreamsBlocked-clause-current c = rw c.in-StreamsBlocked.is (λ e. c.streams_blocked.ensures.current c.args.recvs.now c.args.outbox.now e)

pub returns-in-MaxStreams-clause-current : goal.returns-in-MaxStreams-clause-current
returns-in-MaxStreams-clause-current c = rw c.in-MaxStreams.is (λ e. c.max_streams.ensures.current c.args.recvs.now c.args.outbox.now e)
